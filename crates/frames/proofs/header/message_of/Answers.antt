use Rattle.std.proofs.Common.{length, Some, sym, ap, ◌∙◌, ap₂}
use Rattle.format.specs.Header.{header_message}
use Rattle.format.proofs.Lengths.{length_phy_octets}
use Rattle.frames.proofs.HeaderWords.{message_done}
use Rattle.frames.proofs.header.message_of.Goals as goal

pub returns : goal.returns
returns c =
    let phy = c.copy_from_slice.new.self in
    let mac = c.copy_from_slice-2.new.self in
    let same = c.copy_from_slice.ensures.after ∙ c.pack.ensures in
    message_done c.args.h.seed c.scrambler.result.bits phy mac c.copy_from_slice-3.new.self c.mix.new.octets c.header_check.result
    (ap length same ∙ length_phy_octets c.args.h) (ap length c.copy_from_slice-2.ensures.after ∙ c.told-mac) c.header_check.ensures.answer
    (c.unwrap-sum.ensures ∙ ap Some (sym c.copy_from_slice-3.ensures.after)) c.scrambler.ensures c.mix.ensures.octets
    ∙ ap₂ (header_message c.args.h.seed) same c.copy_from_slice-2.ensures.after
