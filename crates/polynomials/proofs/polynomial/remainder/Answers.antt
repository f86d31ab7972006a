use Rattle.std.proofs.Common.{Some, arith}
use Rattle.std.proofs.lemmas.Grind.{common_steps}
use Rattle.polynomials.proofs.Divisions.{division_is, divided_done}
use Rattle.polynomials.proofs.Remainders.{left_result}
use Rattle.polynomials.proofs.polynomial.remainder.Goals as goal

pub returns-clause-exact : goal.returns-clause-exact
returns-clause-exact g c = λ hd hr.
    left_result g.met.E.Element.laws c.args.divisor.now c.args.row.now (Some c.saturating_sub-n.result) c.loop-i.row (grind (arith, common_steps, division_is)) (grind (arith, common_steps, division_is, divided_done)) hd hr
