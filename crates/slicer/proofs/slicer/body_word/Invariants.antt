use Rattle.std.proofs.Common.{◌≡◌, ◌-◌, ◌++◌, replicate}
use Rattle.format.specs.Reading.{payload_octets}
use Rattle.slicer.specs.Slices.{masked}
use Rattle.slicer.proofs.slicer.body_word.Given as goal

abbrev pub invariant-loop-j : goal.invariant-loop-j
invariant-loop-j l = l.octet-items ≡ payload_octets l.payload.mode (masked l.payload.window.chips.now) l.first l.j ++ replicate (l.size - l.j) 0
