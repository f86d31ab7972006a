use Rattle.std.proofs.Common.{◌≡◌, ◌+◌, ◌≤◌, ℕ, List, ◌++◌, length}
use Rattle.elements.specs.Octets.{octets}
use Rattle.coding.specs.Sums.{from_roots}
use Rattle.coding.specs.Decoder.{others}
use Rattle.menders.proofs.values.Errors.others_product.Given as goal

-- the rest of the locators, and those behind it, whose product it is
abbrev pub invariant-loop-z : goal.invariant-loop-z
invariant-loop-z l =
    (behind : List ℕ) × (l.self.found.items ≡ l.z-iterator.iter.rest.now ++ behind)
    × (l.product.items ≡ from_roots octets (others octets l.y behind)) × (length l.product.items ≤ length behind + 1)
