use Rattle.std.proofs.Common.{◌≡◌, drop}
use Rattle.std.specs.List.{AllByRecursion as Each}
use Rattle.polynomials.specs.Checks.{check}
use Rattle.polynomials.proofs.check.take_in.Given as goal

abbrev pub invariant-loop-x : goal.invariant-loop-x
invariant-loop-x g l =
    let o = g.C.Element.Element.ops in
    let gen = g.C.Check.generator in
    (check o gen l.register (drop l.x-index l.message) ≡ check o gen g.C.Check.preset l.message) × Each g.C.Element.Element.ok l.register
