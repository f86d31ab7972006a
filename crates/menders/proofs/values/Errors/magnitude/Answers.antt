use Rattle.std.proofs.Common.{◌≡◌, ap, ◌∙◌, ap₂, arith, length}
use Rattle.elements.specs.Octets.{octets, product, inverse}
use Rattle.coding.specs.Sums.{slide, eval_low, from_roots}
use Rattle.coding.specs.Kernel.{dot}
use Rattle.coding.specs.Decoder.{others}
use Rattle.menders.specs.Locators.{entries}
use Rattle.menders.proofs.Findings.{slide_dot}
use Rattle.menders.proofs.values.Errors.magnitude.Goals as goal

pub returns : goal.returns
returns c =
    let s = c.args.self.now.syndromes.now in
    let y = c.args.y in
    let P = from_roots octets (others octets y c.args.self.now.found.items) in
    let slid : c.dot.result ≡ slide octets P (entries s) 0 =
    c.dot.ensures ∙ ap (dot octets s) (c.deref-2.ensures.0 ∙ c.others_product-product.ensures) ∙ slide_dot s P 0 (omega (arith, ap length (c.deref.ensures.0 ∙ c.others_product-product.ensures))) in
    let valued : c.low_value-value.result ≡ eval_low octets P y =
    c.low_value-value.ensures ∙ ap (λ l. eval_low octets l y) (c.deref.ensures.0 ∙ c.others_product-product.ensures) in
    c.mul-2.ensures ∙ ap₂ product slid (c.inv.ensures ∙ ap inverse (c.mul.ensures ∙ ap (product y) valued))
