use Rattle.std.proofs.Common.{ℕ, ◌<◌, get_or}
use Rattle.polynomials.proofs.check.load.Given as goal

abbrev pub invariant-loop-i : goal.invariant-loop-i
invariant-loop-i g l = (k : ℕ) → k < l.i → goal.F-post g l.at k (get_or l.row k g.E.Element.ops.zero)
