-- Powers, and polynomials as rows of coefficients.
use Rattle.std.specs.Prelude.{◌≡◌, ℕ, zero, suc, ◌+◌, ◌<◌, ◌≤◌, List, [], ◌∷◌}
use Rattle.std.specs.List.{AllByRecursion as Each}
use Rattle.elements.specs.Laws.{Operations}

-- no two of the row are equal
abbrev pub Distinct : {A : Type 0} → List A → Type 0
Distinct [] = Unit {0}
Distinct (x ∷ xs) = Each (λ y. ¬ (y ≡ x)) xs × Distinct xs

module _ {F : Type 0} (K : Operations F) where
  open K use {zero as 𝟘, one as 𝟙, add as ◌⊕◌, mul as ◌⊗◌}

  infixl 65 ◌⊕◌
  infixl 70 ◌⊗◌
  abbrev pub Zero : F → Type 0
  Zero x = x ≡ 𝟘

  abbrev pub Nonzero : F → Type 0
  Nonzero x = ¬ (x ≡ 𝟘)

  abbrev pub pow : F → ℕ → F
  pow x zero = 𝟙
  pow x (suc n) = x ⊗ pow x n

  -- n zeros of f in a row, from s on
  abbrev pub Vanishes : (ℕ → F) → ℕ → ℕ → Type 0
  Vanishes f s n = (k : ℕ) → s ≤ k → k < s + n → f k ≡ 𝟘

  -- the highest coefficient first, as a word is sent: what the polynomial comes to at x, by Horner's rule
  abbrev pub horner : F → List F → F → F
  horner acc [] x = acc
  horner acc (a ∷ w) x = horner (acc ⊗ x ⊕ a) w x

  -- the lowest coefficient first
  abbrev pub eval_low : List F → F → F
  eval_low [] x = 𝟘
  eval_low (v ∷ vs) x = v ⊕ x ⊗ eval_low vs x

  -- v₀ · s k + v₁ · s (k + 1) + ..
  abbrev pub slide : List F → (ℕ → F) → ℕ → F
  slide [] s k = 𝟘
  slide (v ∷ vs) s k = v ⊗ s k ⊕ slide vs s (suc k)

  -- c + (x + y) times the polynomial, the lowest coefficient first
  abbrev pub times_root : F → F → List F → List F
  times_root y c [] = c ∷ []
  times_root y c (v ∷ vs) = (c ⊕ y ⊗ v) ∷ times_root y v vs

  -- the product of x + y over the row, the lowest coefficient first
  abbrev pub from_roots : List F → List F
  from_roots [] = 𝟙 ∷ []
  from_roots (y ∷ ys) = times_root y 𝟘 (from_roots ys)
