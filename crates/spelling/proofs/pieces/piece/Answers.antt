use Rattle.std.proofs.Common.{eqb, ap, ◌∙◌, rules, tests}
use Rattle.std.specs.List.{slice_get}
use Rattle.std.proofs.lemmas.Iterator.Consumers.{nth_from_yields_List}
use Rattle.std.proofs.lemmas.Iterator.Splits.{YieldsList-from_slice_split}
use Rattle.spelling.proofs.Cuts.{pieces_are, part_at}
use Rattle.spelling.specs.Pieces.{pieces}
use Rattle.spelling.proofs.pieces.piece.Goals as goal

pub returns : goal.returns
returns c =
    let by = c.args.by in
    let t = c.args.text.now in
    part_at (pieces by t) c.args.k c.nth.result
    (nth_from_yields_List c.nth.result c.nth.new.self c.args.k c.nth.ensures.ran
    (YieldsList-from_slice_split _ (λ x. eqb x by) t c.split.ensures.rest c.split.ensures.done c.split.ensures.closure (λ x b q k. search (rules, tests)))
    ∙ ap (λ ps. slice_get ps c.args.k) (pieces_are by t))
