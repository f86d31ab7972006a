use Rattle.std.proofs.Common.{arith}
use Rattle.format.specs.Bits.{line}
use Rattle.format.proofs.Lengths.{length_line}
use Rattle.frames.proofs.BlockChips.{pilot_at, data_at}
use Rattle.frames.proofs.payload.Carried.bit.Goals as goal

pub returns-then-q-ge508 : goal.returns-then-q-ge508
returns-then-q-ge508 c =
    let octets = c.args.self.now.0 in
    pilot_at c.args.block (line octets) c.args.q (omega (arith, length_line c.args.self.now.0)) c.if-q-ge508.true c.requires.1

pub returns : goal.returns
returns c = data_at c.args.self.now.0 c.args.block c.args.q (omega arith) c.if-q-ge508.false
