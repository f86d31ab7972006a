-- Elimination over rows alone, and in the form that a loop over an array has.
use Rattle.std.proofs.Common.{◌≡◌, ℕ, zero, suc, ◌<◌, Bool, true, false, cond, List, [], ◌∷◌, ◌++◌, length, get_or, take, drop, refl, ap, ◌∙◌, subst, ap₂, arith}
use Rattle.std.specs.List.{AllByRecursion as Each}
use Rattle.elements.specs.Laws.{Operations, Compares}
use Rattle.coding.specs.Field.{Field}
use Rattle.coding.specs.Sums.{Nonzero}
use Rattle.coding.specs.Kernel.{dot, add_mul, clear_rows, eliminate_rows, kernel_rows, unit, unit_rows, Solves}
use Rattle.coding.proofs.FieldLaws.{apart_false}
use Rattle.coding.proofs.Kernel.{Alive, clear, eliminate, kernel, units, Good, kernel_good, kernel_some, good_nonzero}

abbrev rows_of : {F : Type 0} → List (Alive F) → List (List F)
rows_of [] = []
rows_of (v ∷ vs) = v.row ∷ rows_of vs

length_rows_of : {F : Type 0} (vs : List (Alive F)) → length (rows_of vs) ≡ length vs
length_rows_of [] = refl
length_rows_of (v ∷ vs) = ap suc (length_rows_of vs)

rows_of_cond : {F : Type 0} (b : Bool) (xs ys : List (Alive F)) → rows_of (cond b xs ys) ≡ cond b (rows_of xs) (rows_of ys)
rows_of_cond true xs ys = refl
rows_of_cond false xs ys = refl

module _ {F : Type 0} (K : Operations F) where
  open K use {zero as 𝟘, mul as ◌⊗◌, inv, same}

  infixl 70 ◌⊗◌
  pub length_clear_rows : (r p : List F) (vs : List (List F)) → length (clear_rows K r p vs) ≡ length vs
  length_clear_rows r p [] = refl
  length_clear_rows r p (v ∷ vs) = ap suc (length_clear_rows r p vs)

  rows_clear : (r : List F) (p : Alive F) (vs : List (Alive F)) → rows_of (clear K r p vs) ≡ clear_rows K r p.row (rows_of vs)
  rows_clear r p [] = refl
  rows_clear r p (v ∷ vs) = ap {B = List (List F)} (λ xs. add_mul K (dot K r v.row ⊗ inv (dot K r p.row)) v.row p.row ∷ xs) (rows_clear r p vs)

  rows_eliminate : (r : List F) (vs : List (Alive F)) → rows_of (eliminate K r vs) ≡ eliminate_rows K r (rows_of vs)
  rows_eliminate r [] = refl
  rows_eliminate r (v ∷ vs) =
      rows_of_cond (same (dot K r v.row) 𝟘) (v ∷ eliminate K r vs) (clear K r v vs)
      ∙ ap₂ (λ x y. cond (same (dot K r v.row) 𝟘) (v.row ∷ x) y) (rows_eliminate r vs) (rows_clear r v vs)

  rows_kernel : (rs : List (List F)) (vs : List (Alive F)) → rows_of (kernel K rs vs) ≡ kernel_rows K rs (rows_of vs)
  rows_kernel [] vs = refl
  rows_kernel (r ∷ rs) vs = rows_kernel rs (eliminate K r vs) ∙ ap (kernel_rows K rs) (rows_eliminate r vs)

  rows_units : (n i k : ℕ) → rows_of (units K n i k) ≡ unit_rows K n i k
  rows_units n i zero = refl
  rows_units n i (suc k) = ap {B = List (List F)} (λ xs. unit K n i ∷ xs) (rows_units n (suc i) k)

  -- from the start
  rows_of_kernel : (n : ℕ) (rs : List (List F)) → rows_of (kernel K rs (units K n 0 n)) ≡ kernel_rows K rs (unit_rows K n 0 n)
  rows_of_kernel n rs = rows_kernel rs (units K n 0 n) ∙ ap (kernel_rows K rs) (rows_units n 0 n)

module _ {F : Type 0} {K : Operations F} (L : Field K) where
  good_rows : (n : ℕ) (rs : List (List F)) (vs : List (Alive F)) → Each (Good K n rs) vs → Each (Solves K n rs) (rows_of vs)
  good_rows n rs [] h = tt
  good_rows n rs (v ∷ vs) h =
      (record { long = h.0.long; solves = h.0.solves; some = good_nonzero L n rs v h.0 }, good_rows n rs vs h.1)

  -- each row that is left solves every equation, and is not zero
  pub rows_solve : (n : ℕ) (rs : List (List F)) → Each (Solves K n rs) (kernel_rows K rs (unit_rows K n 0 n))
  rows_solve n rs = subst (Each (Solves K n rs)) (rows_of_kernel K n rs) (good_rows n rs (kernel K rs (units K n 0 n)) (kernel_good L n rs))

  -- with fewer equations than unknowns, one is left
  pub rows_left : (n : ℕ) (rs : List (List F)) → length rs < n → 0 < length (kernel_rows K rs (unit_rows K n 0 n))
  rows_left n rs fewer = rw (← rows_of_kernel K n rs) (omega (arith, length_rows_of (kernel K rs (units K n 0 n)), kernel_some L n rs fewer))

-- what a loop does: the rows before the first that does not solve r stay, that one goes, and those after it are cleared
module _ {F : Type 0} {K : Operations F} (C : Compares K) where
  open K use {zero as 𝟘}

  pub eliminate_none : (r : List F) (vs : List (List F)) → Each (λ v. dot K r v ≡ 𝟘) vs → eliminate_rows K r vs ≡ vs
  eliminate_none r [] h = refl
  eliminate_none r (v ∷ vs) h =
      ap₂ (λ t xs. cond t (v ∷ xs) (clear_rows K r v vs)) (C.alike (dot K r v) 𝟘 h.0) (eliminate_none r vs h.1)

  pub eliminate_at : (r : List F) (p : ℕ) (vs : List (List F)) → p < length vs → Each (λ v. dot K r v ≡ 𝟘) (take p vs) → Nonzero K (dot K r (get_or vs p []))
      → eliminate_rows K r vs ≡ take p vs ++ clear_rows K r (get_or vs p []) (drop (suc p) vs)
  eliminate_at r p [] below h some = absurd (omega arith)
  eliminate_at r zero (v ∷ vs) below h some = ap (λ t. cond t (v ∷ eliminate_rows K r vs) (clear_rows K r v vs)) (apart_false C (dot K r v) 𝟘 some)
  eliminate_at r (suc p) (v ∷ vs) below h some =
      ap₂ (λ t xs. cond t (v ∷ xs) (clear_rows K r v vs)) (C.alike (dot K r v) 𝟘 h.0) (eliminate_at r p vs (omega arith) h.1 some)
