use Rattle.std.proofs.Common.{◌≡◌, ◌++◌, take, drop}
use Rattle.elements.specs.Octets.{octets}
use Rattle.coding.specs.Kernel.{clear_rows}
use Rattle.menders.proofs.kernel.clear.Given as goal

abbrev pub invariant-loop-row : goal.invariant-loop-row
invariant-loop-row l =
    take l.row-index l.rows ++ clear_rows octets l.equation l.pivot (drop l.row-index l.rows) ≡ clear_rows octets l.equation l.pivot l.initial.rows
