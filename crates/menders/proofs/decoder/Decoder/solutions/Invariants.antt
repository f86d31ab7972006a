use Rattle.std.proofs.Common.{◌≡◌, ℕ, ◌+◌, ◌-◌, ◌*◌, ◌≤◌, take, drop}
use Rattle.elements.specs.Octets.{octets}
use Rattle.coding.specs.Kernel.{kernel_rows}
use Rattle.coding.specs.Decoder.{windows}
use Rattle.menders.specs.Locators.{entries}
use Rattle.menders.proofs.decoder.Decoder.solutions.Given as goal

-- k of the t equations are solved
abbrev pub invariant-loop-equation : goal.invariant-loop-equation
invariant-loop-equation g l =
    (k : ℕ) × (k ≤ g.row.REACH) × (l.equation-iterator.size ≡ g.row.REACH + 1) × (l.equation-iterator.rest.now ≡ drop k (take (2 * g.row.REACH) l.syndromes))
    × (kernel_rows octets (windows (entries l.syndromes) (g.row.REACH + 1) k (g.row.REACH - k)) l.rows.items
    ≡ kernel_rows octets (windows (entries l.syndromes) (g.row.REACH + 1) 0 g.row.REACH) l.initial.rows.items)
