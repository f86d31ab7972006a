use Rattle.std.proofs.Common.{◌≡◌, ◌++◌}
use Rattle.elements.specs.Octets.{octets}
use Rattle.coding.specs.Decoder.{correction}
use Rattle.menders.specs.Locators.{entries}
use Rattle.menders.specs.Repairs.{repairs}
use Rattle.menders.proofs.values.Errors.changes.Given as goal

abbrev pub invariant-loop-k : goal.invariant-loop-k
invariant-loop-k l =
    let f = correction octets (entries l.self.syndromes.now) l.self.vector.now l.self.found.items in
    l.changes.items ++ repairs f l.self.len l.k ≡ repairs f l.self.len l.self.len
