use Rattle.std.proofs.Common.{◌≡◌, ◌+◌, [], ◌∷◌, drop, Some, None, vec_items, sym, refl, ap, ◌∙◌}
use Rattle.std.proofs.lemmas.Slice.{pushed}
use Rattle.spelling.specs.Lists.{behind, each}
use Rattle.spelling.proofs.Readings.{each_none, each_more, each_all}
use Rattle.spelling.proofs.list.read_each.Goals as goal

pub returns-in_default : goal.returns-in_default
returns-in_default g c = λ meaning means.
    let part = c.part-item.result in
    let none : None ≡ meaning part = means part None (record { shown = _; shows = refl; says = record { met = c.in_default.ensures } }) in
    sym (each_none meaning c.args.parts.now c.loop-part.part-index part (vec_items c.loop-part.list) c.loop-part-test.true (none ∙ ap meaning c.part-item.is))
    ∙ c.loop-part.invariant meaning means

pub loop-part-preserved : goal.loop-part-preserved
loop-part-preserved g c = λ meaning means.
    let part = c.part-item.result in
    let some : Some c.in-Some.said ≡ meaning part = means part (Some c.in-Some.said) (record { shown = _; shows = refl; says = record { met = c.in-Some.ensures } }) in
    ap (λ xs. behind xs (each meaning (drop (c.loop-part.part-index + 1) c.args.parts.now))) (pushed (c.in-Some.said ∷ []) refl c.in_ok-push.was c.push.ensures.items)
    ∙ sym (each_more meaning c.args.parts.now c.loop-part.part-index part (vec_items c.loop-part.list) c.in-Some.said c.loop-part-test.true (some ∙ ap meaning c.part-item.is))
    ∙ c.loop-part.invariant meaning means

pub returns : goal.returns
returns g c = λ meaning means.
    sym (each_all meaning c.args.parts.now c.loop-part.part-index (vec_items c.loop-part.list) c.loop-part-test.false)
    ∙ c.loop-part.invariant meaning means
