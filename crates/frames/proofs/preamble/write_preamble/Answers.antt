use Rattle.std.proofs.Common.{ap, ◌∙◌, arith}
use Rattle.format.specs.Frame.{copies}
use Rattle.frames.proofs.Preambles.{preamble_done}
use Rattle.frames.proofs.preamble.write_preamble.Goals as goal

pub returns : goal.returns
returns c =
    preamble_done c.args.mode c.write_copies.new.chips c.write_copies-2.new.chips c.write_codes.new.chips c.minus.result _ _ c.minus.ensures (omega arith) (omega arith)
    c.write_codes.ensures (c.write_copies.ensures ∙ ap (copies _) c.signed.ensures) c.write_copies-2.ensures
