use Rattle.std.proofs.Common.{◌≡◌, ◌+◌, ◌≤◌, drop}
use Rattle.polynomials.specs.Differences.{differing}
use Rattle.polynomials.proofs.difference.differences.Given as goal

abbrev pub invariant-loop-i : goal.invariant-loop-i
invariant-loop-i g l = let o = g.E.Element.ops in (l.n ≤ l.i) × (l.n + differing o (drop l.i l.a) (drop l.i l.b) ≡ differing o l.a l.b)
