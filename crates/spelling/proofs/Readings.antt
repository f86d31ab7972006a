-- Lists that are read part by part: what a loop over the parts keeps.
use Rattle.std.proofs.Common.{◌≡◌, ℕ, zero, suc, ◌+◌, ◌*◌, ◌<◌, ◌≤◌, List, [], ◌∷◌, ◌++◌, length, get_or, map, drop, Some, None, Option, sym, refl, ap, ◌∙◌, arith}
use Rattle.std.proofs.lemmas.List.{at_drop_more, at_drop_all, append_assoc, append-nil}
use Rattle.std.specs.Simd.{first_chunks}
use Rattle.spelling.specs.Lists.{and_then, behind, each}
use Rattle.spelling.specs.Octets.{hex_octet, hex_octets}

behind_behind : {X : Type 0} (xs ys : List X) (o : Option (List X)) → behind xs (behind ys o) ≡ behind (xs ++ ys) o
behind_behind xs ys None = refl
behind_behind {X} xs ys (Some zs) = ap (λ (ws : List X). Some ws) (sym (append_assoc xs ys zs))

module _ {X Y : Type 0} (f : X → Option Y) (xs : List X) (i : ℕ) (d : X) (vs : List Y) where
  at : (o : Option Y) → i < length xs → o ≡ f (get_or xs i d) → behind vs (each f (drop i xs)) ≡ behind vs (and_then o (λ y. behind (y ∷ []) (each f (drop (i + 1) xs))))
  at o lt e =
      ap (behind vs) (at_drop_more (each f) xs i d lt ∙ ap (λ (p : Option Y). and_then p (λ y. behind (y ∷ []) (each f (drop (i + 1) xs)))) (sym e))

  pub each_none : i < length xs → None ≡ f (get_or xs i d) → behind vs (each f (drop i xs)) ≡ None
  each_none lt e = at None lt e

  pub each_more : (y : Y) → i < length xs → Some y ≡ f (get_or xs i d) → behind vs (each f (drop i xs)) ≡ behind (vs ++ y ∷ []) (each f (drop (i + 1) xs))
  each_more y lt e = at (Some y) lt e ∙ behind_behind vs (y ∷ []) (each f (drop (i + 1) xs))

pub each_all : {X Y : Type 0} (f : X → Option Y) (xs : List X) (i : ℕ) (vs : List Y) → length xs ≤ i → behind vs (each f (drop i xs)) ≡ Some vs
each_all {X} {Y} f xs i vs end = ap (behind vs) (at_drop_all (each f) xs i end) ∙ ap (λ (ws : List Y). Some ws) (append-nil vs)

-- the parts are seen through a reading of them
pub each_seen : {X Y Z : Type 0} (see : X → Y) (f : Y → Option Z) (xs : List X) → each (λ x. f (see x)) xs ≡ each f (map see xs)
each_seen see f [] = refl
each_seen see f (x ∷ xs) = ap (λ o. and_then (f (see x)) (λ y. behind (y ∷ []) o)) (each_seen see f xs)

-- octets that are read by twos
pub each_pair : (k : ℕ) (t : List ℕ) → length t ≡ 2 * k → each (λ (p : List ℕ). hex_octet (get_or p 0 0) (get_or p 1 0)) (first_chunks 2 k t) ≡ hex_octets t
each_pair zero [] h = refl
each_pair zero (c ∷ cs) h = absurd (omega arith)
each_pair (suc k) [] h = absurd (omega arith)
each_pair (suc k) (c ∷ []) h = absurd (omega arith)
each_pair (suc k) (c ∷ (d ∷ cs)) h = ap (λ os. and_then (hex_octet c d) (λ o. behind (o ∷ []) os)) (each_pair k cs (omega arith))

none_behind : {X Y : Type 0} (o : Option X) (ys : Option (List Y)) (f : X → List Y) → ys ≡ None → and_then o (λ x. behind (f x) ys) ≡ None
none_behind None ys f e = refl
none_behind (Some x) ys f e = ap (behind (f x)) e

-- one digit is left over
pub hex_odd : (k : ℕ) (t : List ℕ) → length t ≡ 2 * k + 1 → hex_octets t ≡ None
hex_odd k [] h = absurd (omega arith)
hex_odd k (c ∷ []) h = refl
hex_odd zero (c ∷ (d ∷ cs)) h = absurd (omega arith)
hex_odd (suc k) (c ∷ (d ∷ cs)) h = none_behind (hex_octet c d) (hex_octets cs) (λ o. o ∷ []) (hex_odd k cs (omega arith))
