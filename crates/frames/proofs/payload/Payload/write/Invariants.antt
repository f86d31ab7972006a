use Rattle.std.proofs.Common.{◌≡◌, ◌*◌, take}
use Rattle.format.specs.Bits.{line}
use Rattle.format.specs.Payload.{blocks}
use Rattle.frames.proofs.payload.Payload.write.Given as goal

abbrev pub invariant-loop-block : goal.invariant-loop-block
invariant-loop-block l = take (512 * l.spread * l.block) l.chips ≡ blocks l.spread l.block (line l.carried.0)
