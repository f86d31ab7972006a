use Rattle.std.proofs.Common.{◌≡◌, ◌++◌, length, take, drop}
use Rattle.elements.specs.Octets.{octets}
use Rattle.coding.specs.Kernel.{add_mul}
use Rattle.menders.proofs.kernel.add_multiple.Given as goal

abbrev pub invariant-loop-i : goal.invariant-loop-i
invariant-loop-i l =
    (length l.row ≡ 9) × (take l.i l.row ++ add_mul octets l.c (drop l.i l.row) (drop l.i l.by) ≡ add_mul octets l.c l.initial.row l.by)
