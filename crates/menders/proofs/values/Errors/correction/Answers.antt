use Rattle.std.proofs.Common.{◌≡◌, cond, eqb, sym, ap, ap₂, ◌∙◌}
use Rattle.std.specs.List.{list_any}
use Rattle.elements.specs.Octets.{octets, power}
use Rattle.coding.specs.Sums.{eval_low}
use Rattle.coding.specs.Decoder.{magnitude}
use Rattle.menders.specs.Locators.{entries}
use Rattle.menders.proofs.Findings.{found_where}
use Rattle.menders.proofs.values.Errors.correction.Goals as goal

pub returns-then-contains : goal.returns-then-contains
returns-then-contains c =
    let e = c.args.self.now in
    let M = magnitude octets (entries e.syndromes.now) e.found.items in
    let test : c.contains.result ≡ eqb (eval_low octets c.args.self.now.vector.now (power c.args.k)) 0 =
    c.contains.ensures.value ∙ ap₂ (λ x l. list_any (λ z. eqb z x) l) c.at-y.ensures c.deref.ensures.0 ∙ found_where e.vector.now e.found.items c.args.k e.len e.all c.requires in
    c.magnitude.ensures ∙ ap M c.at-y.ensures ∙ ap (λ t. cond t (M (power c.args.k)) 0) (sym c.if-contains.true ∙ test)

pub returns-else-contains : goal.returns-else-contains
returns-else-contains c =
    let e = c.args.self.now in
    let M = magnitude octets (entries e.syndromes.now) e.found.items in
    let test : c.contains.result ≡ eqb (eval_low octets c.args.self.now.vector.now (power c.args.k)) 0 =
    c.contains.ensures.value ∙ ap₂ (λ x l. list_any (λ z. eqb z x) l) c.at-y.ensures c.deref.ensures.0 ∙ found_where e.vector.now e.found.items c.args.k e.len e.all c.requires in
    ap (λ t. cond t (M (power c.args.k)) 0) (sym c.if-contains.false ∙ test)
