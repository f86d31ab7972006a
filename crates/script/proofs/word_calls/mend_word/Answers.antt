use Rattle.std.proofs.Common.{◌≡◌, ℕ, List, length, Ok, Err, codes, ap, ◌∙◌, rules, arith}
use Rattle.std.proofs.lemmas.List.{with_items_is}
use Rattle.answers.specs.Texts.{named_text}
use Rattle.script.proofs.Verdicts.{mended}
use Rattle.script.proofs.word_calls.mend_word.Goals as goal

pub returns-in-Ok-eq0 : goal.returns-in-Ok-eq0
returns-in-Ok-eq0 c = (Ok c.in-Ok-eq0.field-0, c.mend.new.word, c.mend.new.mender, search rules, search rules)

pub returns-in-Ok : goal.returns-in-Ok
returns-in-Ok c =
    let v : List ℕ = c.mend.new.word in
    let long : length v ≡ c.args.word.len = omega (arith, c.mend.auto.word, c.as_mut_slice.ensures.len) in (
      Ok c.in-Ok.field-0,
      v,
      c.mend.new.mender,
      search rules,
      ap (named_text (codes "mended")) (with_items_is c.args.word v long) ∙ mended c.in-Ok.field-0 v c.in-Ok.field-0-test.1,
    )

pub returns-in-Err : goal.returns-in-Err
returns-in-Err c = (Err c.in-Err.fault, c.mend.new.word, c.mend.new.mender, search rules, search rules)
