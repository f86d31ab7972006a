-- Sums of values, each times a power of its locator, and that enough of them in a row determine the values.
use Rattle.std.proofs.Common.{◌≡◌, ℕ, zero, suc, ◌≤◌, List, [], ◌∷◌, length, sym, refl, ap, ◌∙◌, ap₂, arith}
use Rattle.std.specs.List.{AllByRecursion as Each}
use Rattle.elements.specs.Laws.{Operations}
use Rattle.coding.specs.Field.{Field}
use Rattle.coding.specs.Sums.{Distinct, Zero, Nonzero, pow, Vanishes}
use Rattle.coding.proofs.FieldLaws.{ring, add-zero, zero_factor, sum_apart, pow_apart}

-- one error: what is wrong, and the locator of the place where it is
pub record Term (F : Type 0) : Type 0 where
  pub value : F
  pub at : F

abbrev pub locators : {F : Type 0} → List (Term F) → List F
locators [] = []
locators (p ∷ ps) = p.at ∷ locators ps

module _ {F : Type 0} (K : Operations F) where
  open K use {zero as 𝟘, add as ◌⊕◌, mul as ◌⊗◌}

  infixl 65 ◌⊕◌
  infixl 70 ◌⊗◌
  -- the sum of value · locator ^ i
  abbrev pub psum : List (Term F) → ℕ → F
  psum [] i = 𝟘
  psum (p ∷ ps) i = p.value ⊗ pow K p.at i ⊕ psum ps i

  -- each value times f of its locator
  abbrev pub weigh : (F → F) → List (Term F) → List (Term F)
  weigh f [] = []
  weigh f (p ∷ ps) = record { value = p.value ⊗ f p.at; at = p.at } ∷ weigh f ps

  pub locators_weigh : (f : F → F) (ps : List (Term F)) → locators (weigh f ps) ≡ locators ps
  locators_weigh f [] = refl
  locators_weigh f (p ∷ ps) = ap {B = List F} (λ r. p.at ∷ r) (locators_weigh f ps)

  pub length_weigh : (f : F → F) (ps : List (Term F)) → length (weigh f ps) ≡ length ps
  length_weigh f [] = refl
  length_weigh f (p ∷ ps) = ap suc (length_weigh f ps)

module _ {F : Type 0} {K : Operations F} (L : Field K) where
  open K use {zero as 𝟘, add as ◌⊕◌, mul as ◌⊗◌}

  infixl 65 ◌⊕◌
  infixl 70 ◌⊗◌
  -- no value, no sum
  pub psum_zero : (ps : List (Term F)) (i : ℕ) → Each (λ p. Zero K p.value) ps → psum K ps i ≡ 𝟘
  psum_zero [] i h = refl
  psum_zero (p ∷ ps) i h =
      ap₂ (λ a b. a ⊗ pow K p.at i ⊕ b) h.0 (psum_zero ps i h.1) ∙ simp (ring, L)

  less_step : (e x y z a b : F) → e ⊗ (y ⊕ x) ⊗ z ⊕ (b ⊕ x ⊗ a) ≡ (e ⊗ (y ⊗ z) ⊕ b) ⊕ x ⊗ (e ⊗ z ⊕ a)
  less_step e x y z a b = simp (ring, L)

  -- from one power to the next, less x times
  pub psum_less : (x : F) (ps : List (Term F)) (i : ℕ) → psum K (weigh K (λ y. y ⊕ x) ps) i ≡ psum K ps (suc i) ⊕ x ⊗ psum K ps i
  psum_less x [] i = simp (ring, L)
  psum_less x (p ∷ ps) i = ap (λ a. p.value ⊗ (p.at ⊕ x) ⊗ pow K p.at i ⊕ a) (psum_less x ps i) ∙ less_step p.value x p.at (pow K p.at i) (psum K ps i) (psum K ps (suc i))

  -- a zero product, the factor away from zero
  pub weigh_zero : (f : F → F) (ps : List (Term F)) → Each (λ x. Nonzero K (f x)) (locators ps) → Each (λ p. Zero K p.value) (weigh K f ps) → Each (λ p. Zero K p.value) ps
  weigh_zero f [] away h = tt
  weigh_zero f (p ∷ ps) away h = (zero_factor L p.value (f p.at) away.0 h.0, weigh_zero f ps away.1 h.1)

  apart_all : (x : F) (ys : List F) → Each (λ y. ¬ (y ≡ x)) ys → Each (λ y. Nonzero K (y ⊕ x)) ys
  apart_all x [] h = tt
  apart_all x (y ∷ ys) h = (sum_apart L y x h.0, apart_all x ys h.1)

  -- what is left of two sums in a row, once the first place is taken out
  step_zero : (e x z a b : F) → e ⊗ z ⊕ a ≡ 𝟘 → e ⊗ (x ⊗ z) ⊕ b ≡ 𝟘 → b ⊕ x ⊗ a ≡ 𝟘
  step_zero e x z a b h k =
      let regroup : b ⊕ x ⊗ a ≡ (e ⊗ (x ⊗ z) ⊕ b) ⊕ x ⊗ (e ⊗ z ⊕ a) = simp (ring, L) in
      regroup ∙ ap₂ (λ u v. u ⊕ x ⊗ v) k h ∙ simp (ring, L)

  -- Vandermonde: with distinct locators that are not zero, as many sums in a row that are zero as there are places leave no value
  pub vandermonde : (n s : ℕ) (ps : List (Term F)) → length ps ≤ n → Distinct (locators ps) → Each (Nonzero K) (locators ps)
      → Vanishes K (psum K ps) s n → Each (λ p. Zero K p.value) ps
  vandermonde zero s [] le distinct nonzero van = tt
  vandermonde zero s (p ∷ ps) le distinct nonzero van = absurd (omega arith)
  vandermonde (suc n) s [] le distinct nonzero van = tt
  vandermonde (suc n) s (p ∷ ps) le distinct nonzero van =
      let x = p.at in
      let f : F → F = λ y. y ⊕ x in
      let van' : Vanishes K (psum K (weigh K f ps)) s n =
      λ k from to. psum_less x ps k ∙ step_zero p.value x (pow K x k) (psum K ps k) (psum K ps (suc k)) (van k from (omega arith)) (van (suc k) (omega arith) (omega arith)) in
      let less = vandermonde n s (weigh K f ps) (rw length_weigh (omega arith)) (rw locators_weigh distinct.1) (rw locators_weigh nonzero.1) van' in
      let rest = weigh_zero f ps (apart_all x (locators ps) distinct.0) less in
      let alone : p.value ⊗ pow K x s ≡ 𝟘 = sym (add-zero L _) ∙ ap (λ a. p.value ⊗ pow K x s ⊕ a) (sym (psum_zero ps s rest)) ∙ van s (omega arith) (omega arith) in
      (zero_factor L p.value (pow K x s) (pow_apart L x s nonzero.0) alone, rest)
