use Rattle.std.proofs.Common.{◌≡◌, ℕ, ◌<◌, length, get_or}
use Rattle.elements.specs.Octets.{octets, power}
use Rattle.coding.specs.Decoder.{syndrome}
use Rattle.menders.proofs.syndrome.syndromes.Given as goal

abbrev pub invariant-loop-k : goal.invariant-loop-k
invariant-loop-k l = (length l.s-items ≡ 16) × ((i : ℕ) → i < l.k → get_or l.s-items i 0 ≡ syndrome octets power l.word i)
