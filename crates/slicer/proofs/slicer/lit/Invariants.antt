use Rattle.std.proofs.Common.{◌≡◌, ◌*◌, ◌≤◌, take}
use Rattle.format.specs.Sequences.{drawn, after}
use Rattle.format.specs.Frame.{added}
use Rattle.format.specs.Reading.{ones}
use Rattle.slicer.proofs.slicer.lit.Given as goal

abbrev pub invariant-loop-c : goal.invariant-loop-c
invariant-loop-c l =
    (l.sum ≤ 255 * l.c-index)
    × (l.sum ≡ ones (added (take l.c-index l.chips) (drawn l.c-index l.initial.register.bits)))
    × (l.register.bits ≡ after l.c-index l.initial.register.bits)
