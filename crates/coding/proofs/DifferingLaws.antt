-- The number of places in which two rows differ is a distance: zero only at equal rows, the same both ways, and no more than by way of a third row.
use Rattle.std.proofs.Common.{◌≡◌, ℕ, suc, ◌+◌, ◌≤◌, Bool, true, false, cond, List, [], ◌∷◌, ◌++◌, length, sym, refl, ◌∙◌, ap₂, arith}
use Rattle.std.proofs.lemmas.Bool.{both_ways}
use Rattle.elements.specs.Laws.{Operations, Compares}
use Rattle.polynomials.specs.Differences.{differing}

-- three letters: where the first is the second and the second the third, the first is the third
triangle_step : (p q r : Bool) (k m n : ℕ) → k ≤ m + n → (p ≡ true → q ≡ true → r ≡ true) → cond r 0 1 + k ≤ (cond p 0 1 + m) + (cond q 0 1 + n)
triangle_step true true true k m n h f = omega arith
triangle_step true true false k m n h f = absurd (both_ways false refl (f refl refl))
triangle_step true false true k m n h f = omega arith
triangle_step true false false k m n h f = omega arith
triangle_step false true true k m n h f = omega arith
triangle_step false true false k m n h f = omega arith
triangle_step false false true k m n h f = omega arith
triangle_step false false false k m n h f = omega arith

module _ {E : Type 0} {K : Operations E} (C : Compares K) where
  open K use {same}

  same_swap : (x y : E) → same x y ≡ same y x
  same_swap x y = go (same x y) (same y x) refl refl
    where
      go : (p q : Bool) → same x y ≡ p → same y x ≡ q → p ≡ q
      go true true e f = refl
      go false false e f = refl
      go true false e f = absurd (both_ways (same y x) f (C.alike y x (sym (C.equal x y e))))
      go false true e f = absurd (both_ways (same x y) e (C.alike x y (sym (C.equal y x f))))

  pub differing_swap : (w c : List E) → differing K w c ≡ differing K c w
  differing_swap [] [] = refl
  differing_swap [] (b ∷ c) = refl
  differing_swap (a ∷ w) [] = refl
  differing_swap (a ∷ w) (b ∷ c) = ap₂ (λ t n. cond t 0 1 + n) (same_swap a b) (differing_swap w c)

  pub differing_triangle : (u v w : List E) → length u ≡ length v → length v ≡ length w → differing K u w ≤ differing K u v + differing K v w
  differing_triangle [] v w p q = omega arith
  differing_triangle (a ∷ u) [] w p q = absurd (omega arith)
  differing_triangle (a ∷ u) (b ∷ v) [] p q = absurd (omega arith)
  differing_triangle (a ∷ u) (b ∷ v) (c ∷ w) p q =
      triangle_step (same a b) (same b c) (same a c) (differing K u w) (differing K u v) (differing K v w) (differing_triangle u v w (omega arith) (omega arith))
      (λ e f. C.alike a c (C.equal a b e ∙ C.equal b c f))

  pub differing_none : (w c : List E) → length w ≡ length c → differing K w c ≡ 0 → w ≡ c
  differing_none [] [] len none = refl
  differing_none [] (b ∷ c) len none = absurd (omega arith)
  differing_none (a ∷ w) [] len none = absurd (omega arith)
  differing_none (a ∷ w) (b ∷ c) len none =
      (elim (same a b) as (λ t. same a b ≡ t → cond t 0 1 + differing K w c ≡ 0 → ◌≡◌ {A = List E} (a ∷ w) (b ∷ c)) [
        | true ↦ λ e z. ap₂ {C = List E} (λ x xs. x ∷ xs) (C.equal a b e) (differing_none w c (omega arith) (omega arith))
        | false ↦ λ e z. absurd (omega arith)
      ]) refl none

  differing_most : (w c : List E) → differing K w c ≤ length w
  differing_most [] c = omega arith
  differing_most (a ∷ w) [] = omega arith
  differing_most (a ∷ w) (b ∷ c) =
      let rest = differing_most w c in
      elim (same a b) as (λ t. cond t 0 1 + differing K w c ≤ suc (length w)) [ true ↦ omega arith | false ↦ omega arith ]

  -- rows that begin with the same differ only after that
  pub differing_after : (a b c : List E) → differing K (a ++ b) (a ++ c) ≤ length b
  differing_after [] b c = differing_most b c
  differing_after (x ∷ a) b c = rw (C.alike x x refl) (omega (arith, differing_after a b c))
