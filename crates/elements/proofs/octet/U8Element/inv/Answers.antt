use mathlib.Core.Path.{◌≡◌, sym, ap, ap₂, ◌∙◌}
use Prim.Native.Nat.{◌+◌, ◌-◌}
use native.Mathlib.Omega.{arith}
use Rattle.elements.specs.Octets.{power, product, inverse}
use Rattle.elements.specs.OctetLaws.{inverse_zero, inverse_is, product_power, power_255}
use Rattle.elements.proofs.octet.U8Element.inv.Goals as goal

pub returns-then-self-eq0 : goal.returns-then-self-eq0
returns-then-self-eq0 c = sym (ap inverse c.if-self-eq0.true ∙ inverse_zero)

pub returns-else-self-eq0 : goal.returns-else-self-eq0
returns-else-self-eq0 c =
    let a = c.args.self in
    let l = c.logarithm.result in
    let whole : l + (255 - l) ≡ 255 = omega arith in
    inverse_is a c.power_of.result c.ranges.self.fits c.power_of.type_inv c.if-self-eq0.false
    (ap₂ product (sym c.logarithm.ensures.1) c.power_of.ensures ∙ product_power l (255 - l) ∙ ap power whole ∙ power_255)
