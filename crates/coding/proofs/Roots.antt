-- A polynomial of t + 1 coefficients that are not all zero has no more than t roots.
use Rattle.std.proofs.Common.{◌≡◌, suc, ◌<◌, ◌≤◌, List, [], ◌∷◌, length, sym, refl, ap, ◌∙◌, ap₂, arith}
use native.Mathlib.Decide.{dec_lt}
use Rattle.std.specs.List.{AllByRecursion as Each}
use Rattle.elements.specs.Laws.{Operations}
use Rattle.coding.specs.Field.{Field}
use Rattle.coding.specs.Sums.{Distinct, Zero, eval_low}
use Rattle.coding.proofs.FieldLaws.{ring, mul_comm, add-zero, zero_factor, sum_apart}

module _ {F : Type 0} (K : Operations F) where
  -- the polynomial less its value at r, divided by x + r, the lowest coefficient first
  abbrev pub quotient : F → List F → List F
  quotient r [] = []
  quotient r (v ∷ []) = []
  quotient r (v ∷ u ∷ us) = eval_low K (u ∷ us) r ∷ quotient r (u ∷ us)

module _ {F : Type 0} {K : Operations F} (L : Field K) where
  open K use {zero as 𝟘, add as ◌⊕◌, mul as ◌⊗◌}

  infixl 65 ◌⊕◌
  infixl 70 ◌⊗◌
  quotient_step : (v x r p q c : F) → p ⊕ q ≡ (x ⊕ r) ⊗ c → (v ⊕ x ⊗ p) ⊕ (v ⊕ r ⊗ q) ≡ (x ⊕ r) ⊗ (q ⊕ x ⊗ c)
  quotient_step v x r p q c h =
      let left : (v ⊕ x ⊗ p) ⊕ (v ⊕ r ⊗ q) ≡ (x ⊕ r) ⊗ q ⊕ x ⊗ (p ⊕ q) = simp (ring, L) in
      left ∙ ap (λ a. (x ⊕ r) ⊗ q ⊕ x ⊗ a) h ∙ simp (ring, L)

  -- synthetic division
  pub divided : (r x : F) (vs : List F) → eval_low K vs x ⊕ eval_low K vs r ≡ (x ⊕ r) ⊗ eval_low K (quotient K r vs) x
  divided r x [] = simp (ring, L)
  divided r x (v ∷ []) = simp (ring, L)
  divided r x (v ∷ u ∷ us) =
      quotient_step v x r (eval_low K (u ∷ us) x) (eval_low K (u ∷ us) r) (eval_low K (quotient K r (u ∷ us)) x) (divided r x (u ∷ us))

  pub length_quotient : (r v : F) (vs : List F) → length (quotient K r (v ∷ vs)) ≡ length vs
  length_quotient r v [] = refl
  length_quotient r v (u ∷ us) = ap suc (length_quotient r u us)

  -- a polynomial that divides to nothing and leaves nothing is nothing
  pub zero_of_quotient : (r : F) (vs : List F) → eval_low K vs r ≡ 𝟘 → Each (Zero K) (quotient K r vs) → Each (Zero K) vs
  zero_of_quotient r [] h q = tt
  zero_of_quotient r (v ∷ []) h q = let here : v ⊕ r ⊗ 𝟘 ≡ 𝟘 = h in (simp (ring, L) at here, tt)
  zero_of_quotient r (v ∷ u ∷ us) h q =
      let inner : eval_low K (u ∷ us) r ≡ 𝟘 = q.0 in
      let here : v ⊕ r ⊗ 𝟘 ≡ 𝟘 = ap (λ a. v ⊕ r ⊗ a) (sym inner) ∙ h in
      (simp (ring, L) at here, zero_of_quotient r (u ∷ us) inner q.1)

  others : (r : F) (vs : List F) → eval_low K vs r ≡ 𝟘 → (xs : List F) → Each (λ x. ¬ (x ≡ r)) xs → Each (λ x. eval_low K vs x ≡ 𝟘) xs
      → Each (λ x. eval_low K (quotient K r vs) x ≡ 𝟘) xs
  others r vs h [] away zeros = tt
  others r vs h (x ∷ xs) away zeros =
      let q = eval_low K (quotient K r vs) x in
      let product : q ⊗ (x ⊕ r) ≡ 𝟘 = mul_comm L q (x ⊕ r) ∙ sym (divided r x vs) ∙ ap₂ ◌⊕◌ zeros.0 h ∙ add-zero L 𝟘 in
      (zero_factor L q (x ⊕ r) (sum_apart L x r away.0) product, others r vs h xs away.1 zeros.1)

  -- as many roots as coefficients: all coefficients are zero
  pub many_roots : (rs vs : List F) → Distinct rs → Each (λ r. eval_low K vs r ≡ 𝟘) rs → length vs ≤ length rs → Each (Zero K) vs
  many_roots [] [] distinct zeros le = tt
  many_roots [] (v ∷ vs) distinct zeros le = absurd (omega arith)
  many_roots (r ∷ rs) [] distinct zeros le = tt
  many_roots (r ∷ rs) (v ∷ vs) distinct zeros le =
      zero_of_quotient r (v ∷ vs) zeros.0
      (many_roots rs (quotient K r (v ∷ vs)) distinct.1 (others r (v ∷ vs) zeros.0 rs distinct.0 zeros.1) (rw length_quotient (omega arith)))

  pub few_roots : (rs vs : List F) → Distinct rs → Each (λ r. eval_low K vs r ≡ 𝟘) rs → ¬ (Each (Zero K) vs) → length rs < length vs
  few_roots rs vs distinct zeros some =
      elim (dec_lt (length rs) (length vs)) [
        | yes below ↦ below
        | no above ↦ absurd (some (many_roots rs vs distinct zeros (omega arith)))
      ]
