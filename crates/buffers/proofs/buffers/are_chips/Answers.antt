use Rattle.std.proofs.Common.{leb, ◌&&◌, refl, ◌∙◌, rules, tests}
use Rattle.std.specs.List.{list_all}
use Rattle.std.proofs.lemmas.Iterator.{YieldsList-from_slice}
use Rattle.std.proofs.lemmas.Iterator.Search.{all_from_yields_List}
use Rattle.std.proofs.lemmas.List.Recursion.{same_from_clauses}
use Rattle.buffers.specs.Buffers.{all_chips}
use Rattle.buffers.proofs.buffers.are_chips.Goals as goal

pub returns : goal.returns
returns c =
    all_from_yields_List (λ o. leb o 1) _ _ c.all.result c.all.ensures.ran (YieldsList-from_slice c.args.chips.now cc) (λ x b q k. search (rules, tests))
    ∙ same_from_clauses (list_all (λ o. leb o 1)) all_chips (λ o b. leb o 1 && b) refl (λ _ _. refl) (λ _ _. refl) c.args.chips.now
