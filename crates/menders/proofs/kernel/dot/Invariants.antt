use Rattle.std.proofs.Common.{◌≡◌}
use lib.Bits.{bit_xor}
use Rattle.elements.specs.Octets.{octets}
use Rattle.coding.specs.Kernel.{dot}
use Rattle.menders.proofs.kernel.dot.Given as goal

abbrev pub invariant-loop-r : goal.invariant-loop-r
invariant-loop-r l = bit_xor l.sum (dot octets l.r-iterator.a.rest.now l.r-iterator.b.rest.now) ≡ dot octets l.equation l.v
