use Rattle.std.proofs.Common.{arith}
use Rattle.frames.proofs.BlockChips.{chip_more, chips_all}
use Rattle.frames.proofs.payload.Carried.write_block.Goals as goal

pub loop-j-preserved : goal.loop-j-preserved
loop-j-preserved c =
    chip_more c.loop-j.chips c.args.self.now.0 c.args.spread c.args.block c.loop-j.j c.bit.result c.requires.1 (omega arith) (omega arith) (omega arith) c.bit.ensures c.loop-j.invariant

pub returns : goal.returns
returns c = chips_all c.loop-j.chips c.args.self.now.0 c.args.spread c.args.block c.loop-j.j (omega arith) (omega arith) (omega arith) c.loop-j.invariant
