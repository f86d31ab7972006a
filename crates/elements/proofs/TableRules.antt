-- The rules of the two tables, each computed once over the whole table.
use mathlib.Core.Path.{◌≡◌, sym, ap, subst, ◌∙◌}
use mathlib.Core.Bool.{Bool}
use mathlib.Core.List.{List, [], ◌∷◌}
use Prim.Native.Nat.{ℕ, zero, suc, ◌+◌, ◌<◌}
use native.Mathlib.Nat.{not-suc-le-zero, le_of_suc-le-suc}
use native.Mathlib.Omega.{arith}
use lib.Dec.{T, eqb, eqb→eq, ltb, ltb→lt}
use lib.ListN.{get_or, set, replicate}
use Rattle.elements.specs.Octets.{double, power}
use Rattle.elements.specs.Tests.{both, both_left, both_right, every, at}

-- n octets from a on, each the double of the one before
unfoldable pub run : ℕ → ℕ → List ℕ
run zero a = []
run (suc n) a = a ∷ run n (double a)

run_at : (n i j : ℕ) → i < n → get_or (run n (power j)) i 0 ≡ power (j + i)
unfolding run power
run_at zero i j h = absurd (not-suc-le-zero h)
run_at (suc n) zero j h = ap power (omega arith)
run_at (suc n) (suc i) j h = run_at n i (suc j) (le_of_suc-le-suc h) ∙ ap power (omega arith)

pub power_read : (xs : List ℕ) (n : ℕ) → xs ≡ run n 1 → (i : ℕ) → i < n → get_or xs i 0 ≡ power i
unfolding power
power_read xs n e i h = ap (λ l. get_or l i 0) e ∙ run_at n i 0 h ∙ ap power (omega arith)

-- a list in which each of the n exponents from i on stands at its power
unfoldable pub sets : ℕ → ℕ → ℕ → List ℕ → List ℕ
sets zero i a xs = xs
sets (suc n) i a xs = sets n (suc i) (double a) (set xs a i)

unfoldable pub logarithms : List ℕ
logarithms = sets 255 0 1 (replicate 256 0)

finds : List ℕ → ℕ → Bool
finds xs a = both (ltb (get_or xs (suc a) 0) 255) (eqb (power (get_or xs (suc a) 0)) (suc a))

all_found : T (every (finds logarithms) 0 255)
unfolding logarithms sets finds power double
all_found = tt

pub logarithm_read : (xs : List ℕ) → xs ≡ logarithms → (a : ℕ) → 0 < a → a < 256 → (get_or xs a 0 < 255) × (power (get_or xs a 0) ≡ a)
unfolding finds
logarithm_read xs e zero p h = absurd (not-suc-le-zero p)
logarithm_read xs e (suc a) p h =
    let f = at (finds logarithms) 255 all_found a (le_of_suc-le-suc h) in
    let x = get_or logarithms (suc a) 0 in
    subst (λ l. (get_or l (suc a) 0 < 255) × (power (get_or l (suc a) 0) ≡ suc a)) (sym e)
    (ltb→lt x 255 (both_left (ltb x 255) (eqb (power x) (suc a)) f), eqb→eq (power x) (suc a) (both_right (ltb x 255) (eqb (power x) (suc a)) f))
