use Rattle.std.proofs.Common.{[], ◌∷◌, sym, ◌∙◌, rules}
use borrow.Author.Tests.{tests}
use Rattle.std.proofs.lemmas.Iterator.Adapters.{option_map_id}
use Rattle.std.proofs.lemmas.Iterator.{YieldsList-from_slice}
use Rattle.std.proofs.lemmas.Iterator.Consumers.{YieldsList-from_copied}
use Rattle.std.proofs.lemmas.Iterator.Search.{find_from_yields_List}
use Rattle.format.specs.declared.code.Code.TheVariants.{A, MinusA, B, MinusB}
use Rattle.format.specs.Codes.{code_chips}
use Rattle.format.specs.Reading.{near, read_code}
use Rattle.windows.proofs.sfd.read_code.Goals as goal

pub returns : goal.returns
unfolding read_code
returns c =
    let chips = c.args.chips.now in
    sym (option_map_id c.find.result)
    ∙ find_from_yields_List (λ k. near chips (code_chips k)) _ _ c.find.result c.find.ensures.ran
    (YieldsList-from_copied (YieldsList-from_slice (A ∷ MinusA ∷ B ∷ MinusB ∷ []) cc)) (λ x b q k. search (rules, tests))
