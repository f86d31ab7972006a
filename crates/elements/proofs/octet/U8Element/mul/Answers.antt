use mathlib.Core.Path.{sym, ap, ap₂, ◌∙◌}
use mathlib.Core.Logic.{⊎_elim}
use lib.Dec.{lit<}
use Rattle.elements.specs.Octets.{product}
use Rattle.elements.specs.OctetLaws.{product_zero, product_comm, product_power}
use Rattle.elements.proofs.octet.U8Element.mul.Goals as goal

pub returns-then-other-eq0 : goal.returns-then-other-eq0
returns-then-other-eq0 c =
    let a = c.args.self in
    let b = c.args.other in
    ⊎_elim
    (λ e. sym (ap (λ x. product x b) e ∙ product_zero b))
    (λ h. sym (ap (product a) h.1 ∙ product_comm a 0 c.ranges.self.fits (lit< tt) ∙ product_zero a))
    c.if-other-eq0.either

pub returns-else-other-eq0 : goal.returns-else-other-eq0
returns-else-other-eq0 c =
    c.power_of.ensures ∙ sym (product_power c.logarithm.result c.logarithm-else-other-eq0.result)
    ∙ ap₂ product c.logarithm.ensures.1 c.logarithm-else-other-eq0.ensures.1
