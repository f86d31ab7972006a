use Rattle.std.proofs.Common.{eqb, rules, tests}
use Rattle.std.proofs.lemmas.Iterator.{YieldsList-from_slice}
use Rattle.std.proofs.lemmas.Iterator.Search.{position_from_yields_List}
use Rattle.captures.proofs.Places.{found}
use Rattle.captures.proofs.text.place_of.Goals as goal

pub returns : goal.returns
returns c =
    let x = c.args.octet in
    found x c.args.text.now c.position.result
    (position_from_yields_List (λ o. eqb o x) _ _ c.position.result c.position.ensures.ran (YieldsList-from_slice c.args.text.now cc) (λ x b q k. search (rules, tests)))
