use Rattle.std.proofs.Common.{◌≡◌, ◌++◌}
use Rattle.elements.specs.Octets.{octets, power}
use Rattle.coding.specs.Decoder.{roots}
use Rattle.menders.proofs.values.find_roots.Given as goal

abbrev pub invariant-loop-k : goal.invariant-loop-k
invariant-loop-k l = l.found.items ++ roots octets power l.vector l.k ≡ roots octets power l.vector l.n
