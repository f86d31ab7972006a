use Rattle.std.proofs.Common.{◌≡◌, eqb, map, IfOk, Ok, vec_items, subst, ap, ◌∙◌, rules, tests}
use Rattle.std.specs.declared.alloc.AllocError.{AllocError}
use Rattle.std.specs.Option.{option_map}
use Rattle.std.proofs.lemmas.Iterator.Consumers.{map_from_collect}
use Rattle.std.proofs.lemmas.Iterator.Splits.{YieldsList-from_slice_split}
use Rattle.spelling.specs.Lists.{each}
use Rattle.spelling.specs.Pieces.{pieces}
use Rattle.spelling.specs.Changes.{change_read}
use Rattle.spelling.proofs.Cuts.{pieces_are}
use Rattle.spelling.proofs.Readings.{each_seen}
use Rattle.spelling.proofs.changes.read_list.Goals as goal

pub returns : goal.returns
returns c =
    let t = c.args.text.now in
    let parts = c.as_slice.result.now in
    let cut : map (λ u. u.now) parts ≡ pieces 44 t =
    ap (map (λ u. u.now)) c.as_slice.ensures.value ∙ map_from_collect {E = AllocError} (Ok c.in_ok-parts.parts) c.in_ok-parts.ensures.ran
    (YieldsList-from_slice_split _ (λ x. eqb x 44) t c.split.ensures.rest c.split.ensures.done c.split.ensures.closure (λ x b q k. search (rules, tests))) ∙ pieces_are 44 t in
    subst (λ cs. IfOk c.read_each.result (λ o. option_map vec_items o ≡ cs)) (each_seen (λ u. u.now) change_read parts ∙ ap (each change_read) cut)
    (c.read_each.ensures (λ u. change_read u.now) (λ part said h. search rules))
