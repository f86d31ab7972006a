use Rattle.std.proofs.Common.{◌*◌, length, refl, ap, sym, ◌∙◌, arith}
use Rattle.std.proofs.lemmas.List.{take_all}
use Rattle.format.specs.Frame.{all_signed}
use Rattle.format.proofs.Lengths.{length_signed}
use Rattle.frames.proofs.Fronts.{part_more}
use Rattle.frames.proofs.Preambles.{codes_more}
use Rattle.frames.proofs.preamble.write_codes.Goals as goal

pub loop-k-init : goal.loop-k-init
unfolding all_signed
loop-k-init c = refl

pub loop-k-preserved : goal.loop-k-preserved
loop-k-preserved c =
    let code = c.copy_from_slice.ensures.after ∙ c.signed.ensures in
    part_more c.loop-k.chips c.copy_from_slice.new.self _ _ 128 c.loop-k.k _ (ap length code ∙ length_signed _) (omega arith)
    (codes_more c.args.signs.now _ c.loop-k.k c.loop-k-test.true code) c.loop-k.invariant

pub returns : goal.returns
returns c =
    let k = c.loop-k.k in
    sym (take_all (128 * k) c.loop-k.chips (omega arith)) ∙ c.loop-k.invariant ∙ ap all_signed (take_all k c.args.signs.now (omega arith))
