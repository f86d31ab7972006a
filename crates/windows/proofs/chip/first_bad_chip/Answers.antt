use Rattle.std.proofs.Common.{ltb, ◌∙◌, rules}
use borrow.Author.Tests.{tests}
use Rattle.std.proofs.lemmas.Iterator.{YieldsList-from_slice}
use Rattle.std.proofs.lemmas.Iterator.Search.{position_from_yields_List}
use Rattle.windows.proofs.BadChips.{bad_position}
use Rattle.windows.proofs.chip.first_bad_chip.Goals as goal

pub returns : goal.returns
returns c =
    let w = c.args.chips.now in
    position_from_yields_List (λ x. ltb 1 x) _ _ _ c.position.ensures.ran (YieldsList-from_slice w cc) (λ x b q k. search (rules, tests)) ∙ bad_position w
