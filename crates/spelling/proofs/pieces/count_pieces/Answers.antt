use Rattle.std.proofs.Common.{eqb, length, ap, ◌∙◌, rules, tests}
use Rattle.std.proofs.lemmas.Iterator.Consumers.{count_from_yields_List}
use Rattle.std.proofs.lemmas.Iterator.Splits.{YieldsList-from_slice_split}
use Rattle.spelling.proofs.Cuts.{pieces_are}
use Rattle.spelling.proofs.pieces.count_pieces.Goals as goal

pub returns : goal.returns
returns c =
    let by = c.args.by in
    let t = c.args.text.now in
    count_from_yields_List c.split.result c.count.result c.count.ensures.ran
    (YieldsList-from_slice_split _ (λ x. eqb x by) t c.split.ensures.rest c.split.ensures.done c.split.ensures.closure (λ x b q k. search (rules, tests)))
    ∙ ap length (pieces_are by t)
