use Rattle.std.proofs.Common.{◌∙◌, arith}
use Rattle.std.proofs.lemmas.Grind.{common_steps}
use Rattle.std.proofs.lemmas.Str.{IsUtf8-from_ascii}
use Rattle.writing.specs.Chips.{chip_char}
use Rattle.writing.proofs.Texts.{chips_ascii, filled}
use Rattle.writing.proofs.chips.digits.Goals as goal

pub loop-i-preserved : goal.loop-i-preserved
loop-i-preserved c = λ k h. grind (arith, common_steps, c.loop-i.invariant)

pub unreachable-requires : goal.unreachable-requires
unreachable-requires c =
    let cs = c.args.chips.now in
    let text = filled chip_char cs c.loop-i.text 0 (omega arith) (λ k h. c.loop-i.invariant k (omega arith)) in
    c.in_default.ensures.cases.0 (rw text (IsUtf8-from_ascii _ (chips_ascii cs)))

pub returns : goal.returns
returns c = c.in-Ok.ensures.cases.0 ∙ filled chip_char c.args.chips.now c.loop-i.text 0 (omega arith) (λ k h. c.loop-i.invariant k (omega arith))
