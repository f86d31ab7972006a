use Rattle.std.proofs.Common.{not, ◌∙◌, rules, tests}
use Rattle.std.proofs.lemmas.Iterator.{YieldsList-from_slice}
use Rattle.std.proofs.lemmas.Iterator.Search.{position_from_yields_List}
use Rattle.captures.specs.Windows.{chip_digit}
use Rattle.captures.proofs.Places.{bad_digit_is}
use Rattle.captures.proofs.line.first_bad_digit.Goals as goal

pub returns : goal.returns
returns c =
    position_from_yields_List (λ d. not (chip_digit d)) _ _ c.position.result c.position.ensures.ran (YieldsList-from_slice c.args.digits.now cc) (λ x b q k. search (rules, tests))
    ∙ bad_digit_is c.args.digits.now
