use Rattle.std.proofs.Common.{◌≡◌, ◌-◌, ◌++◌, take, drop}
use Rattle.polynomials.specs.Division.{divided}
use Rattle.polynomials.proofs.polynomial.remainder.Given as goal

abbrev pub invariant-loop-i : goal.invariant-loop-i
invariant-loop-i g l =
    let o = g.E.Element.ops in
    take l.i l.row ++ divided o l.unit l.rest (l.n - l.i) (drop l.i l.row) ≡ divided o l.unit l.rest l.n l.initial.row
