use Rattle.std.proofs.Common.{eqb, ◌&&◌, refl, ◌∙◌, rules, tests}
use Rattle.std.specs.List.{list_all}
use Rattle.std.proofs.lemmas.Iterator.{YieldsList-from_slice}
use Rattle.std.proofs.lemmas.Iterator.Search.{all_from_yields_List}
use Rattle.std.proofs.lemmas.List.Recursion.{same_from_clauses}
use Rattle.buffers.specs.Buffers.{all_zero}
use Rattle.buffers.proofs.buffers.are_zero.Goals as goal

pub returns : goal.returns
returns c =
    all_from_yields_List (λ o. eqb o 0) _ _ c.all.result c.all.ensures.ran (YieldsList-from_slice c.args.octets.now cc) (λ x b q k. search (rules, tests))
    ∙ same_from_clauses (list_all (λ o. eqb o 0)) all_zero (λ o b. eqb o 0 && b) refl (λ _ _. refl) (λ _ _. refl) c.args.octets.now
