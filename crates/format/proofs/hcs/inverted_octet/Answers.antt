use Rattle.std.proofs.Common.{arith}
use Rattle.format.proofs.CheckBits.{sent_more, sent_done}
use Rattle.format.proofs.hcs.inverted_octet.Goals as goal

pub loop-k-preserved : goal.loop-k-preserved
loop-k-preserved c = sent_more c.args.bits.now c.loop-k.k c.loop-k.octet _ (omega arith) c.loop-k-test.true c.loop-k.invariant.0 c.loop-k.invariant.1

pub returns : goal.returns
returns c = sent_done c.args.bits.now c.loop-k.k c.loop-k.octet _ c.loop-k-test.false c.loop-k.invariant.1
