use Rattle.std.proofs.Common.{◌≡◌, take}
use Rattle.format.specs.Sequences.{after, spreader}
use Rattle.format.specs.Frame.{header_chips}
use Rattle.frames.proofs.header.write_header.Given as goal

abbrev pub invariant-loop-i : goal.invariant-loop-i
invariant-loop-i l = record { front : take l.i l.chips ≡ take l.i (header_chips l.word); register : l.spreader.bits ≡ after l.i spreader }
