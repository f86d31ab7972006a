use Rattle.std.proofs.Common.{◌≡◌, ℕ, ◌<◌, length, get_or}
use Rattle.elements.specs.Octets.{power}
use Rattle.menders.proofs.syndrome.Powers.new.Given as goal

abbrev pub invariant-loop-a : goal.invariant-loop-a
invariant-loop-a l = (length l.a-items ≡ 240) × (l.next ≡ power l.a-index) × ((k : ℕ) → k < l.a-index → get_or l.a-items k 0 ≡ power k)
