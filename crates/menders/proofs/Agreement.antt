-- The first sixteen syndromes are all that the search for changes asks for.
use Rattle.std.proofs.Common.{◌≡◌, ℕ, suc, ◌<◌, ◌≤◌, true, false, cond, eqb, List, [], ◌∷◌, length, sym, ap, ◌∙◌, arith}
use Rattle.elements.specs.Octets.{octets, product, inverse}
use Rattle.coding.specs.Sums.{eval_low, from_roots}
use Rattle.coding.specs.Decoder.{others, correction}
use Rattle.coding.proofs.Locator.{slide_same}
use Rattle.coding.proofs.Values.{length_from_roots}
use Rattle.menders.specs.Locators.{Locates}

pub length_others : (y : ℕ) (zs : List ℕ) → length (others octets y zs) ≤ length zs
length_others y [] = omega arith
length_others y (z ∷ zs) =
    let rest = length_others y zs in
    elim (eqb z y) as (λ t. length (cond t (others octets y zs) (z ∷ others octets y zs)) ≤ suc (length zs)) [ true ↦ omega arith | false ↦ omega arith ]

module _ (s σ : ℕ → ℕ) (agree : (i : ℕ) → i < 16 → s i ≡ σ i) where
  pub locates_same : (t : ℕ) (v : List ℕ) → t ≤ 8 → Locates s t v → Locates σ t v
  locates_same t v le l = record {
    long = l.long;
    proper = l.proper;
    some = l.some;
    solves = λ k below. sym (slide_same octets v s σ k (λ i from to. agree i (omega (arith, l.long)))) ∙ l.solves k below;
  }

  pub correction_same : (v ys : List ℕ) → length ys ≤ 8 → (y : ℕ) → correction octets s v ys y ≡ correction octets σ v ys y
  correction_same v ys few y =
      let P = from_roots octets (others octets y ys) in
      ap (λ a. cond (eqb (eval_low octets v y) 0) (product a (inverse (product y (eval_low octets P y)))) 0)
      (slide_same octets P s σ 0 (λ i from to. agree i (omega (arith, length_from_roots octets (others octets y ys), length_others y ys))))
