-- Two words whose polynomials vanish at as many powers of α in a row as there are places in which they differ are the same.
use Rattle.std.proofs.Common.{◌≡◌, ℕ, ◌+◌, ◌<◌, ◌≤◌, Bool, true, false, cond, List, [], ◌∷◌, length, sym, refl, ap, ◌∙◌, ap₂, arith}
use Rattle.std.specs.List.{AllByRecursion as Each}
use Rattle.elements.specs.Laws.{Operations}
use Rattle.polynomials.specs.Differences.{differing}
use Rattle.coding.specs.Field.{Field}
use Rattle.coding.specs.Sums.{Distinct, Zero, Nonzero, pow, Vanishes, horner}
use Rattle.coding.proofs.FieldLaws.{ring, zero_plus, pow_apart, pow_swap, sum_apart, apart_of_false, compares}
use Rattle.coding.proofs.DifferingLaws.{differing_none}
use Rattle.coding.proofs.PowerSums.{Term, locators, psum, vandermonde}

module _ {F : Type 0} (K : Operations F) where
  open K use {zero as 𝟘, add as ◌⊕◌, mul as ◌⊗◌, same}

  infixl 65 ◌⊕◌
  infixl 70 ◌⊗◌
  -- a polynomial by its coefficients, the highest first, as the sum of its terms at x
  abbrev pub eval_high : List F → F → F
  eval_high [] x = 𝟘
  eval_high (a ∷ w) x = a ⊗ pow K x (length w) ⊕ eval_high w x

  -- the first n powers of α are distinct
  abbrev pub PowersApart : F → ℕ → Type 0
  PowersApart α n = (i j : ℕ) → i < j → j < n → ¬ (pow K α i ≡ pow K α j)

  -- the places in which two words differ: by how much, and the locator of the place, which is α to the number of places after it
  abbrev pub diffs : F → List F → List F → List (Term F)
  diffs α [] c = []
  diffs α (a ∷ w) [] = []
  diffs α (a ∷ w) (b ∷ c) = cond (same a b) (diffs α w c) (record { value = a ⊕ b; at = pow K α (length w) } ∷ diffs α w c)

module _ {F : Type 0} {K : Operations F} (L : Field K) where
  open K use {zero as 𝟘, add as ◌⊕◌, mul as ◌⊗◌, same}

  infixl 65 ◌⊕◌
  infixl 70 ◌⊗◌
  horner_step : (acc x a z w : F) → (acc ⊗ x ⊕ a) ⊗ z ⊕ w ≡ acc ⊗ (x ⊗ z) ⊕ (a ⊗ z ⊕ w)
  horner_step acc x a z w = simp (ring, L)

  pub horner_acc : (acc : F) (w : List F) (x : F) → horner K acc w x ≡ acc ⊗ pow K x (length w) ⊕ eval_high K w x
  horner_acc acc [] x = simp (ring, L)
  horner_acc acc (a ∷ w) x = horner_acc (acc ⊗ x ⊕ a) w x ∙ horner_step acc x a (pow K x (length w)) (eval_high K w x)

  -- Horner's rule
  pub horner_eval : (w : List F) (x : F) → horner K 𝟘 w x ≡ eval_high K w x
  horner_eval w x = horner_acc 𝟘 w x ∙ simp (ring, L)

  differ_step : (a b z u v : F) → (a ⊕ b) ⊗ z ⊕ (u ⊕ v) ≡ (a ⊗ z ⊕ u) ⊕ (b ⊗ z ⊕ v)
  differ_step a b z u v = simp (ring, L)

  agree_step : (a z u v : F) → u ⊕ v ≡ (a ⊗ z ⊕ u) ⊕ (a ⊗ z ⊕ v)
  agree_step a z u v = simp (ring, L)

  -- the difference of two words at α ^ i is the sum of powers of the places in which they differ
  pub psum_diffs : (α : F) (i : ℕ) (w c : List F) → length w ≡ length c
      → psum K (diffs K α w c) i ≡ eval_high K w (pow K α i) ⊕ eval_high K c (pow K α i)
  psum_diffs α i [] [] len = simp (ring, L)
  psum_diffs α i [] (b ∷ c) len = absurd (omega arith)
  psum_diffs α i (a ∷ w) [] len = absurd (omega arith)
  psum_diffs α i (a ∷ w) (b ∷ c) len =
      let x = pow K α i in
      let len' : length w ≡ length c = omega arith in
      let rest = psum_diffs α i w c len' in
      let as_long : pow K x (length w) ≡ pow K x (length c) = ap (λ n. pow K x n) len' in
      let goal : Bool → Type 0 = λ t. psum K (cond t (diffs K α w c) (record { value = a ⊕ b; at = pow K α (length w) } ∷ diffs K α w c)) i
      ≡ (a ⊗ pow K x (length w) ⊕ eval_high K w x) ⊕ (b ⊗ pow K x (length c) ⊕ eval_high K c x) in
      (elim (same a b) as (λ t. same a b ≡ t → goal t) [
        | true ↦ λ e. rest ∙ agree_step a (pow K x (length w)) (eval_high K w x) (eval_high K c x)
            ∙ ap₂ (λ u v. (a ⊗ pow K x (length w) ⊕ eval_high K w x) ⊕ (u ⊗ v ⊕ eval_high K c x)) (L.same_true a b e) as_long
        | false ↦ λ e. ap₂ (λ u v. (a ⊕ b) ⊗ u ⊕ v) (pow_swap L α (length w) i) rest
            ∙ differ_step a b (pow K x (length w)) (eval_high K w x) (eval_high K c x)
            ∙ ap (λ v. (a ⊗ pow K x (length w) ⊕ eval_high K w x) ⊕ (b ⊗ v ⊕ eval_high K c x)) as_long
      ]) refl

  pub length_diffs : (α : F) (w c : List F) → length (diffs K α w c) ≡ differing K w c
  length_diffs α [] c = refl
  length_diffs α (a ∷ w) [] = refl
  length_diffs α (a ∷ w) (b ∷ c) =
      let rest = length_diffs α w c in
      elim (same a b) as (λ t. length (cond t (diffs K α w c) (record { value = a ⊕ b; at = pow K α (length w) } ∷ diffs K α w c)) ≡ cond t 0 1 + differing K w c) [
        | true ↦ omega arith
        | false ↦ omega arith
      ]

  pub diffs_values : (α : F) (w c : List F) → Each (λ p. Nonzero K p.value) (diffs K α w c)
  diffs_values α [] c = tt
  diffs_values α (a ∷ w) [] = tt
  diffs_values α (a ∷ w) (b ∷ c) =
      let rest = diffs_values α w c in
      (elim (same a b) as (λ t. same a b ≡ t → Each (λ p. Nonzero K p.value) (cond t (diffs K α w c) (record { value = a ⊕ b; at = pow K α (length w) } ∷ diffs K α w c))) [
        | true ↦ λ e. rest
        | false ↦ λ e. (sum_apart L a b (apart_of_false (compares L) a b e), rest)
      ]) refl

  -- what holds of each power of α below the length holds of each locator
  pub diffs_locators : (P : F → Type 0) (α : F) (n : ℕ) → ((k : ℕ) → k < n → P (pow K α k)) → (w c : List F) → length w ≤ n → Each P (locators (diffs K α w c))
  diffs_locators P α n h [] c le = tt
  diffs_locators P α n h (a ∷ w) [] le = tt
  diffs_locators P α n h (a ∷ w) (b ∷ c) le =
      let rest = diffs_locators P α n h w c (omega arith) in
      let here = h (length w) (omega arith) in
      elim (same a b) as (λ t. Each P (locators (cond t (diffs K α w c) (record { value = a ⊕ b; at = pow K α (length w) } ∷ diffs K α w c)))) [
        | true ↦ rest
        | false ↦ (here, rest)
      ]

  pub diffs_distinct : (α : F) (n : ℕ) → PowersApart K α n → (w c : List F) → length w ≤ n → Distinct (locators (diffs K α w c))
  diffs_distinct α n apart [] c le = tt
  diffs_distinct α n apart (a ∷ w) [] le = tt
  diffs_distinct α n apart (a ∷ w) (b ∷ c) le =
      let rest = diffs_distinct α n apart w c (omega arith) in
      let away = diffs_locators (λ y. ¬ (y ≡ pow K α (length w))) α (length w) (λ k below. apart k (length w) below (omega arith)) w c (omega arith) in
      elim (same a b) as (λ t. Distinct (locators (cond t (diffs K α w c) (record { value = a ⊕ b; at = pow K α (length w) } ∷ diffs K α w c)))) [
        | true ↦ rest
        | false ↦ (away, rest)
      ]

  none_left : (ps : List (Term F)) → Each (λ p. Zero K p.value) ps → Each (λ p. Nonzero K p.value) ps → length ps ≡ 0
  none_left [] z h = refl
  none_left (p ∷ ps) z h = absurd (h.0 z.0)

  -- The least distance. Two words, no longer than the order of α, whose polynomials both vanish at r powers of α in a row,
  -- and that differ in no more than r places, are the same.
  pub least_distance : (α : F) (n s r : ℕ) → Nonzero K α → PowersApart K α n → (w c : List F) → length w ≡ length c → length w ≤ n
      → Vanishes K (λ i. horner K 𝟘 w (pow K α i)) s r → Vanishes K (λ i. horner K 𝟘 c (pow K α i)) s r
      → differing K w c ≤ r → w ≡ c
  least_distance α n s r nonzero apart w c len fits zw zc near =
      let van : Vanishes K (psum K (diffs K α w c)) s r =
      λ k from to. psum_diffs α k w c len
      ∙ ap₂ ◌⊕◌ (sym (horner_eval w (pow K α k)) ∙ zw k from to) (sym (horner_eval c (pow K α k)) ∙ zc k from to)
      ∙ zero_plus L 𝟘 in
      let zeros = vandermonde L r s (diffs K α w c) (rw length_diffs near) (diffs_distinct α n apart w c fits)
      (diffs_locators (Nonzero K) α n (λ k below. pow_apart L α k nonzero) w c fits) van in
      differing_none (compares L) w c len (sym (length_diffs α w c) ∙ none_left (diffs K α w c) zeros (diffs_values α w c))
