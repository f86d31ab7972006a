use Rattle.std.proofs.Common.{◌≡◌, take}
use Rattle.format.specs.Bits.{line}
use Rattle.format.specs.Payload.{repeated}
use Rattle.frames.specs.Blocks.{block_bits}
use Rattle.frames.proofs.payload.Carried.write_block.Given as goal

abbrev pub invariant-loop-j : goal.invariant-loop-j
invariant-loop-j l = take l.j l.chips ≡ take l.j (repeated l.spread (block_bits l.block (line l.self.0)))
