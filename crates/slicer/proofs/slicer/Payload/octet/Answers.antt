use Rattle.std.proofs.Common.{arith}
use Rattle.slicer.specs.Slices.{masked}
use Rattle.slicer.proofs.Payloads.{octet_starts, payload_more}
use Rattle.slicer.proofs.slicer.Payload.octet.Goals as goal

pub loop-k-init : goal.loop-k-init
loop-k-init c = (omega arith, omega (arith, octet_starts c.args.self.mode (masked c.args.self.window.chips.now) c.args.j))

pub loop-k-preserved : goal.loop-k-preserved
loop-k-preserved c =
    payload_more c.args.self.mode c.args.self.window.chips.now c.args.j c.loop-k.k c.loop-k.octet c.bit.result _
    c.loop-k-test.true c.loop-k.invariant.0 c.bit.ensures c.loop-k.invariant.1
