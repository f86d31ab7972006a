-- A list of coefficients that annuls the sums of powers in a row is a polynomial that vanishes at every locator.
use Rattle.std.proofs.Common.{◌≡◌, ℕ, suc, ◌+◌, ◌<◌, ◌≤◌, List, [], ◌∷◌, length, sym, refl, ap, ◌∙◌, ap₂, arith}
use Rattle.std.specs.List.{AllByRecursion as Each}
use Rattle.elements.specs.Laws.{Operations}
use Rattle.coding.specs.Field.{Field}
use Rattle.coding.specs.Sums.{Distinct, Zero, Nonzero, pow, Vanishes, eval_low, slide}
use Rattle.coding.proofs.FieldLaws.{ring, mul_comm, zero_factor}
use Rattle.coding.proofs.PowerSums.{Term, locators, psum, weigh, locators_weigh, length_weigh, vandermonde}

module _ {F : Type 0} (K : Operations F) where
  open K use {add as ◌⊕◌, mul as ◌⊗◌}

  infixl 65 ◌⊕◌
  infixl 70 ◌⊗◌
  -- only the sums that are read count
  pub slide_same : (vs : List F) (s t : ℕ → F) (k : ℕ) → ((i : ℕ) → k ≤ i → i < k + length vs → s i ≡ t i) → slide K vs s k ≡ slide K vs t k
  slide_same [] s t k h = refl
  slide_same (v ∷ vs) s t k h =
      ap₂ (λ a b. v ⊗ a ⊕ b) (h k (omega arith) (omega arith)) (slide_same vs s t (suc k) (λ i from to. h i (omega arith) (omega arith)))

  pub slide_suc : (vs : List F) (s : ℕ → F) (k : ℕ) → slide K vs (λ i. s (suc i)) k ≡ slide K vs s (suc k)
  slide_suc [] s k = refl
  slide_suc (v ∷ vs) s k = ap (λ a. v ⊗ s (suc k) ⊕ a) (slide_suc vs s (suc k))

module _ {F : Type 0} {K : Operations F} (L : Field K) where
  open K use {zero as 𝟘, add as ◌⊕◌, mul as ◌⊗◌}

  infixl 65 ◌⊕◌
  infixl 70 ◌⊗◌
  weigh_none : (ps : List (Term F)) (k : ℕ) → psum K (weigh K (λ x. 𝟘) ps) k ≡ 𝟘
  weigh_none [] k = refl
  weigh_none (p ∷ ps) k = ap (λ a. p.value ⊗ 𝟘 ⊗ pow K p.at k ⊕ a) (weigh_none ps k) ∙ simp (ring, L)

  weigh_step : (e v x c z a b : F) → e ⊗ (v ⊕ x ⊗ c) ⊗ z ⊕ (v ⊗ a ⊕ b) ≡ v ⊗ (e ⊗ z ⊕ a) ⊕ (e ⊗ c ⊗ (x ⊗ z) ⊕ b)
  weigh_step e v x c z a b = simp (ring, L)

  weigh_more : (v : F) (f : F → F) (ps : List (Term F)) (k : ℕ)
      → psum K (weigh K (λ x. v ⊕ x ⊗ f x) ps) k ≡ v ⊗ psum K ps k ⊕ psum K (weigh K f ps) (suc k)
  weigh_more v f [] k = simp (ring, L)
  weigh_more v f (p ∷ ps) k =
      let x = p.at in
      ap (λ a. p.value ⊗ (v ⊕ x ⊗ f x) ⊗ pow K x k ⊕ a) (weigh_more v f ps k)
      ∙ weigh_step p.value v x (f x) (pow K x k) (psum K ps k) (psum K (weigh K f ps) (suc k))

  -- coefficients slid over the sums of powers are the sums of powers of the values, each times the polynomial at its locator
  pub slide_psum : (vs : List F) (ps : List (Term F)) (k : ℕ) → slide K vs (psum K ps) k ≡ psum K (weigh K (eval_low K vs) ps) k
  slide_psum [] ps k = sym (weigh_none ps k)
  slide_psum (v ∷ vs) ps k = ap (λ a. v ⊗ psum K ps k ⊕ a) (slide_psum vs ps (suc k)) ∙ sym (weigh_more v (eval_low K vs) ps k)

  factor_zero : (f : F → F) (ps : List (Term F)) → Each (λ p. Nonzero K p.value) ps → Each (λ p. Zero K p.value) (weigh K f ps) → Each (λ p. f p.at ≡ 𝟘) ps
  factor_zero f [] nz h = tt
  factor_zero f (p ∷ ps) nz h = (zero_factor L (f p.at) p.value nz.0 (mul_comm L (f p.at) p.value ∙ h.0), factor_zero f ps nz.1 h.1)

  -- what annuls n shifts of the sums of powers of n places or fewer vanishes at each of them
  pub locator : (vs : List F) (ps : List (Term F)) (s n : ℕ) → length ps ≤ n → Distinct (locators ps) → Each (Nonzero K) (locators ps)
      → Each (λ p. Nonzero K p.value) ps → Vanishes K (slide K vs (psum K ps)) s n → Each (λ p. eval_low K vs p.at ≡ 𝟘) ps
  locator vs ps s n le distinct nonzero values van =
      let f = eval_low K vs in
      factor_zero f ps values (vandermonde L n s (weigh K f ps) (rw length_weigh le) (rw locators_weigh distinct) (rw locators_weigh nonzero)
      (λ k from to. sym (slide_psum vs ps k) ∙ van k from to))
