-- A decoder, as functions of rows: syndromes, the equations of the locator, its roots, and the values at them.
use Rattle.std.specs.Prelude.{ℕ, zero, suc, cond, List, [], ◌∷◌, length}
use Rattle.elements.specs.Laws.{Operations}
use Rattle.coding.specs.Sums.{Vanishes, horner, eval_low, slide, from_roots}
use Rattle.coding.specs.Kernel.{kernel_rows, unit_rows}

-- n entries of s, from k on
abbrev pub window : {F : Type 0} → (ℕ → F) → ℕ → ℕ → List F
window s k zero = []
window s k (suc n) = s k ∷ window s (suc k) n

-- the m equations from k on, each of n unknowns
abbrev pub windows : {F : Type 0} → (ℕ → F) → ℕ → ℕ → ℕ → List (List F)
windows s n k zero = []
windows s n k (suc m) = window s k n ∷ windows s n (suc k) m

module _ {F : Type 0} (K : Operations F) where
  open K use {zero as 𝟘, mul as ◌⊗◌, inv, same}

  infixl 70 ◌⊗◌
  -- the rows that solve the t equations of the syndromes s
  abbrev pub locator_rows : (ℕ → F) → ℕ → List (List F)
  locator_rows s t = kernel_rows K (windows s (suc t) 0 t) (unit_rows K (suc t) 0 (suc t))

  -- the row less each y
  abbrev pub others : F → List F → List F
  others y [] = []
  others y (z ∷ zs) = cond (same z y) (others y zs) (z ∷ others y zs)

  -- what is wrong at the locator y, if each place where something is wrong is among ys
  abbrev pub magnitude : (ℕ → F) → List F → F → F
  magnitude s ys y = slide K (from_roots K (others y ys)) s 0 ⊗ inv (y ⊗ eval_low K (from_roots K (others y ys)) y)

  -- the same where v vanishes at y, and elsewhere nothing
  abbrev pub correction : (ℕ → F) → List F → List F → F → F
  correction s v ys y = cond (same (eval_low K v y) 𝟘) (magnitude s ys y) 𝟘

-- at k is the locator of the place that k places follow
module _ {F : Type 0} (K : Operations F) (at : ℕ → F) where
  open K use {zero as 𝟘, add as ◌⊕◌, same}

  infixl 65 ◌⊕◌
  -- a word of the code vanishes at the r locators from 1 on
  abbrev pub InCode : ℕ → List F → Type 0
  InCode r c = Vanishes K (λ i. horner K 𝟘 c (at i)) 1 r

  abbrev pub syndrome : List F → ℕ → F
  syndrome w k = horner K 𝟘 w (at (suc k))

  -- those of the first n locators at which v vanishes, the last first
  abbrev pub roots : List F → ℕ → List F
  roots v zero = []
  roots v (suc k) = cond (same (eval_low K v (at k)) 𝟘) (at k ∷ roots v k) (roots v k)

  -- each letter plus what f says of its place
  abbrev pub patch : (F → F) → List F → List F
  patch f [] = []
  patch f (a ∷ w) = (a ⊕ f (at (length w))) ∷ patch f w

  -- the word w put right, where v vanishes at each place at which it is wrong
  abbrev pub correct_by : List F → List F → List F
  correct_by v w = patch (correction K (syndrome w) v (roots v (length w))) w

  abbrev pub decode_with : List (List F) → List F → List F
  decode_with [] w = w
  decode_with (v ∷ vs) w = correct_by v w

  -- the word w put right, where at most t places of it are wrong
  abbrev pub decode : ℕ → List F → List F
  decode t w = decode_with (locator_rows K (syndrome w) t) w
