use Rattle.std.proofs.Common.{◌≡◌, ◌++◌, take, drop}
use Rattle.polynomials.specs.Division.{less}
use Rattle.polynomials.proofs.polynomial.take_multiple.Given as goal

abbrev pub invariant-loop-j : goal.invariant-loop-j
invariant-loop-j g l = let o = g.E.Element.ops in take l.j l.row ++ less o l.f (drop l.j l.by) (drop l.j l.row) ≡ less o l.f l.by l.initial.row
