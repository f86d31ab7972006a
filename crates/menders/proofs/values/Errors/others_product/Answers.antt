use Rattle.std.proofs.Common.{◌≡◌, ◌∷◌, ◌++◌, [], sym, ap, ◌∙◌, arith, cond, length}
use Rattle.std.proofs.lemmas.List.{append_assoc}
use Rattle.std.proofs.lemmas.Bool.{ne_eqb}
use Rattle.elements.specs.Octets.{octets}
use Rattle.coding.specs.Sums.{times_root, from_roots}
use Rattle.coding.specs.Decoder.{others}
use Rattle.coding.proofs.Values.{length_from_roots}
use Rattle.menders.proofs.Agreement.{length_others}
use Rattle.menders.proofs.values.Errors.others_product.Goals as goal

pub loop-z-preserved-then-z-y : goal.loop-z-preserved-then-z-y
loop-z-preserved-then-z-y c =
    let i = c.loop-z.invariant in
    let y = c.args.y in
    let z = c.in-Some.z.now in
    let rest = c.next.new.self.iter.rest.now in
    let behind = z ∷ i.0 in
    let made : c.times_root.new.row.items ≡ from_roots octets (others octets y (z ∷ i.0)) =
    c.times_root.ensures ∙ ap (times_root octets z 0) i.2 ∙ sym (ap (λ t. from_roots octets (cond t (others octets y i.0) (z ∷ others octets y i.0))) (ne_eqb z y c.if-z-y.true)) in (
      z ∷ i.0,
      i.1 ∙ ap (λ l. l ++ i.0) c.in-Some.ensures.steps ∙ append_assoc rest (z ∷ []) i.0,
      made,
      omega (arith, ap length made, length_from_roots octets (others octets y (z ∷ i.0)), length_others y (z ∷ i.0)),
    )
