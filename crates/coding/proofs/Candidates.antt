-- The roots of a polynomial among some locators: distinct, and all that there are; and a row less one of its entries.
use Rattle.std.proofs.Common.{◌≡◌, ℕ, zero, suc, ◌<◌, ◌≤◌, true, false, cond, ◌⊎◌, List, [], ◌∷◌, length, sym, refl, ◌∙◌, subst, inl, inr, arith}
use native.Mathlib.Decide.{dec_le}
use Rattle.std.specs.List.{AllByRecursion as Each}
use Rattle.elements.specs.Laws.{Operations, Compares}
use Rattle.coding.specs.Sums.{Distinct, eval_low}
use Rattle.coding.specs.Decoder.{roots, others}
use Rattle.coding.proofs.FieldLaws.{apart_of_false}
use Rattle.coding.proofs.Values.{Within}

module _ {F : Type 0} {K : Operations F} (C : Compares K) (at : ℕ → F) where
  open K use {zero as 𝟘, same}

  pub roots_zero : (v : List F) (n : ℕ) → Each (λ y. eval_low K v y ≡ 𝟘) (roots K at v n)
  roots_zero v zero = tt
  roots_zero v (suc k) =
      let rest = roots_zero v k in
      let y = at k in
      (elim (same (eval_low K v y) 𝟘) as (λ t. same (eval_low K v y) 𝟘 ≡ t → Each (λ y. eval_low K v y ≡ 𝟘) (cond t (y ∷ roots K at v k) (roots K at v k))) [
        | true ↦ λ e. (C.equal (eval_low K v y) 𝟘 e, rest)
        | false ↦ λ e. rest
      ]) refl

  pub roots_all : (P : F → Type 0) (v : List F) (n : ℕ) → ((k : ℕ) → k < n → P (at k)) → Each P (roots K at v n)
  roots_all P v zero h = tt
  roots_all P v (suc k) h =
      let rest = roots_all P v k (λ i below. h i (omega arith)) in
      let here = h k (omega arith) in
      elim (same (eval_low K v (at k)) 𝟘) as (λ t. Each P (cond t (at k ∷ roots K at v k) (roots K at v k))) [
        | true ↦ (here, rest)
        | false ↦ rest
      ]

  pub roots_distinct : (v : List F) (n : ℕ) → ((i j : ℕ) → i < j → j < n → ¬ (at i ≡ at j)) → Distinct (roots K at v n)
  roots_distinct v zero apart = tt
  roots_distinct v (suc k) apart =
      let rest = roots_distinct v k (λ i j below inside. apart i j below (omega arith)) in
      let away = roots_all (λ y. ¬ (y ≡ at k)) v k (λ i below. apart i k below (omega arith)) in
      elim (same (eval_low K v (at k)) 𝟘) as (λ t. Distinct (cond t (at k ∷ roots K at v k) (roots K at v k))) [
        | true ↦ (away, rest)
        | false ↦ rest
      ]

  -- each of the first n locators at which v vanishes is found
  pub roots_within : (v : List F) (n k : ℕ) → k < n → eval_low K v (at k) ≡ 𝟘 → Within (at k) (roots K at v n)
  roots_within v zero k below z = absurd (omega arith)
  roots_within v (suc n) k below z =
      let y = at n in
      let R = roots K at v n in
      elim (dec_le (suc k) n) [
        | yes earlier ↦ (let rest = roots_within v n k earlier z in
            elim (same (eval_low K v y) 𝟘) as (λ t. Within (at k) (cond t (y ∷ R) R)) [ true ↦ inr rest | false ↦ rest ])
        | no here ↦ (let e : k ≡ n = omega arith in
            let zn : eval_low K v y ≡ 𝟘 = subst (λ i. eval_low K v (at i) ≡ 𝟘) e z in
            let found : Within y (y ∷ R) = inl refl in
            subst (λ i. Within (at i) (roots K at v (suc n))) (sym e)
            ((elim (same (eval_low K v y) 𝟘) as (λ t. same (eval_low K v y) 𝟘 ≡ t → Within y (cond t (y ∷ R) R)) [
              | true ↦ λ s. found
              | false ↦ λ s. absurd (apart_of_false C (eval_low K v y) 𝟘 s zn)
            ]) refl))
      ]

module _ {F : Type 0} {K : Operations F} (C : Compares K) where
  open K use {same}

  pub others_away : (y : F) (zs : List F) → Each (λ z. ¬ (z ≡ y)) (others K y zs)
  others_away y [] = tt
  others_away y (z ∷ zs) =
      let rest = others_away y zs in
      (elim (same z y) as (λ t. same z y ≡ t → Each (λ z. ¬ (z ≡ y)) (cond t (others K y zs) (z ∷ others K y zs))) [
        | true ↦ λ e. rest
        | false ↦ λ e. (apart_of_false C z y e, rest)
      ]) refl

  pub others_within : (x y : F) (zs : List F) → Within x zs → (x ≡ y) ⊎ Within x (others K y zs)
  others_within x y [] h = absurd h
  others_within x y (z ∷ zs) (inl e) =
      (elim (same z y) as (λ t. same z y ≡ t → (x ≡ y) ⊎ Within x (cond t (others K y zs) (z ∷ others K y zs))) [
        | true ↦ λ s. inl (e ∙ C.equal z y s)
        | false ↦ λ s. inr (inl e)
      ]) refl
  others_within x y (z ∷ zs) (inr h) =
      let rest = others_within x y zs h in
      elim (same z y) as (λ t. (x ≡ y) ⊎ Within x (cond t (others K y zs) (z ∷ others K y zs))) [
        | true ↦ rest
        | false ↦ elim rest [ inl e ↦ inl e | inr k ↦ inr (inr k) ]
      ]

  length_others : (y : F) (zs : List F) → length (others K y zs) ≤ length zs
  length_others y [] = omega arith
  length_others y (z ∷ zs) =
      let rest = length_others y zs in
      elim (same z y) as (λ t. length (cond t (others K y zs) (z ∷ others K y zs)) ≤ suc (length zs)) [ true ↦ omega arith | false ↦ omega arith ]

  -- one that is in the row is not among the others
  pub fewer_others : (y : F) (zs : List F) → Within y zs → length (others K y zs) < length zs
  fewer_others y [] h = absurd h
  fewer_others y (z ∷ zs) (inl e) =
      let rest = length_others y zs in
      (elim (same z y) as (λ t. same z y ≡ t → length (cond t (others K y zs) (z ∷ others K y zs)) < suc (length zs)) [
        | true ↦ λ s. omega arith
        | false ↦ λ s. absurd (apart_of_false C z y s (sym e))
      ]) refl
  fewer_others y (z ∷ zs) (inr h) =
      let rest = fewer_others y zs h in
      elim (same z y) as (λ t. length (cond t (others K y zs) (z ∷ others K y zs)) < suc (length zs)) [ true ↦ omega arith | false ↦ omega arith ]
