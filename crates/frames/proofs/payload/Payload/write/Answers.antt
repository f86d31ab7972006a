use Rattle.std.proofs.Common.{◌≡◌, ◌+◌, ◌*◌, ◌≤◌, length, sym, ◌∙◌, ap₂, mul-zero, arith}
use Rattle.std.proofs.lemmas.List.{take_all}
use Rattle.format.specs.Bits.{line}
use Rattle.format.specs.Modes.{row}
use Rattle.format.specs.Payload.{block_count, repeated, blocks}
use Rattle.format.proofs.Lengths.{length_line}
use Rattle.frames.specs.Blocks.{block_bits}
use Rattle.frames.proofs.Fronts.{part_more}
use Rattle.frames.proofs.BlockChips.{chips_long, blocks_more}
use Rattle.frames.proofs.StuffBits.{blocks_carried}
use Rattle.frames.proofs.payload.Payload.write.Goals as goal

pub loop-block-init : goal.loop-block-init
unfolding blocks
loop-block-init c = rw (mul-zero (512 * c.spread-spread.result))

pub loop-block-preserved : goal.loop-block-preserved
loop-block-preserved c =
    let os = c.carried-carried.result.0 in
    let n = c.spread-spread.result in
    let b = c.loop-block.block in
    let fits : 508 * c.loop-block.block + 508 ≤ length (line c.carried-carried.result.0) = omega (arith, length_line c.carried-carried.result.0) in
    rw c.write_block.ensures (part_more c.loop-block.chips (repeated n (block_bits b (line os))) _ _ (512 * n) b _ (chips_long n b (line os) fits) (grind arith) (blocks_more n b (line os)) c.loop-block.invariant)

pub returns : goal.returns
returns c =
    let n = (row c.args.self.now.mode).spread in
    let body = c.args.self.now.body.now in
    let all : c.loop-block.block ≡ block_count (length c.args.self.now.body.now) = omega arith in
    let whole : 512 * c.spread-spread.result * c.loop-block.block ≡ length c.loop-block.chips = ap₂ (λ s k. 512 * s * k) c.spread-spread.ensures all ∙ sym c.requires ∙ sym c.loop-block.auto.chips in
    sym (take_all (512 * c.spread-spread.result * c.loop-block.block) c.loop-block.chips (omega arith)) ∙ c.loop-block.invariant
    ∙ ap₂ (λ s k. blocks s k (line c.carried-carried.result.0)) c.spread-spread.ensures all
    ∙ blocks_carried n 2223 c.args.self.now.behind.bits body c.carried-carried.result.0 (omega arith) c.carried-carried.ensures
