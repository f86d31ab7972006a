use Rattle.std.proofs.Common.{◌≡◌, ◌++◌, take, drop}
use Rattle.elements.specs.Octets.{octets}
use Rattle.coding.specs.Sums.{times_root}
use Rattle.menders.proofs.values.times_root_below.Given as goal

abbrev pub invariant-loop-a : goal.invariant-loop-a
invariant-loop-a l = take l.a-index l.row ++ times_root octets l.y l.carry (drop l.a-index l.row) ≡ times_root octets l.y 0 l.initial.row
