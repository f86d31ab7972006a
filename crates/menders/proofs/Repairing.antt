-- The changes that corrections come to: what they make of the word, and that they are precisely the difference.
use Rattle.std.proofs.Common.{◌≡◌, ℕ, zero, suc, ◌+◌, ◌-◌, ◌<◌, ◌≤◌, true, false, cond, not, ◌&&◌, ◌||◌, eqb, List, [], ◌∷◌, ◌++◌, length, set, sym, refl, ap, ◌∙◌, subst, ap₂, arith, length-append}
use lib.Bits.{bit_xor, xor_assoc, xor_self, xor_zero_l, xor_zero_r, xor_lt}
use Rattle.std.specs.List.{AllByRecursion as Each}
use Rattle.std.proofs.lemmas.List.{append_assoc, get_or_at, set_at}
use Rattle.std.proofs.lemmas.Bool.{eqb-true, ne_eqb, lt-ltb}
use Rattle.elements.specs.Octets.{octets, Octet, power}
use Rattle.coding.specs.Sums.{eval_low}
use Rattle.coding.specs.Decoder.{magnitude, correction, roots, patch}
use Rattle.words.specs.Changes.{changed, inside, named, once, nonzero, Difference, Adds}
use Rattle.mending.specs.Menders.{Ascending}
use Rattle.menders.specs.Repairs.{repairs}

-- at the places behind u, each change adds what f says of its place
changed_behind : (f : ℕ → ℕ) (u w : List ℕ) (n : ℕ) → n ≡ length u + length w → changed (u ++ w) (repairs f n (length w)) ≡ u ++ patch octets power f w
unfolding changed
changed_behind f u [] n e = refl
changed_behind f u (a ∷ w) n e =
    let k = length w in
    let o = f (power k) in
    let p = n - 1 - k in
    let here : length u ≡ n - 1 - length w = omega arith in
    let rest = λ (b : ℕ). sym (append_assoc u (b ∷ []) w) in
    let next : (b : ℕ) → n ≡ length (u ++ (b ∷ [])) + length w = λ b. e ∙ omega (arith, length-append u (b ∷ [])) in
    let more = λ (b : ℕ). ap (λ l. changed l (repairs f n k)) (rest b) ∙ changed_behind f (u ++ (b ∷ [])) w n (next b) ∙ append_assoc u (b ∷ []) (patch octets power f w) in
    (elim (eqb o 0) as (λ t. eqb o 0 ≡ t → changed (u ++ (a ∷ w)) (cond t (repairs f n k) (record { place = p; octet = o } ∷ repairs f n k)) ≡ u ++ (bit_xor a o ∷ patch octets power f w)) [
      | true ↦ λ z. more a ∙ ap (λ x. u ++ (x ∷ patch octets power f w)) (sym (ap (bit_xor a) (eqb-true o 0 z) ∙ xor_zero_r a))
      | false ↦ λ z. ap (λ l. changed l (repairs f n k))
          (ap (λ x. set (u ++ (a ∷ w)) p (bit_xor x o)) (get_or_at u a w 0 p here) ∙ set_at u a w (bit_xor a o) p here) ∙ more (bit_xor a o)
    ]) refl

pub changed_repairs : (f : ℕ → ℕ) (w : List ℕ) → changed w (repairs f (length w) (length w)) ≡ patch octets power f w
changed_repairs f w = changed_behind f [] w (length w) (omega arith)

-- each test that a proposal is put to

pub repairs_inside : (f : ℕ → ℕ) (n k : ℕ) → k ≤ n → inside n (repairs f n k) ≡ true
repairs_inside f n zero le = refl
repairs_inside f n (suc k) le =
    let rest = repairs_inside f n k (omega arith) in
    elim (eqb (f (power k)) 0) as (λ t. inside n (cond t (repairs f n k) (record { place = n - 1 - k; octet = f (power k) } ∷ repairs f n k)) ≡ true) [
      | true ↦ rest
      | false ↦ ap₂ ◌&&◌ (lt-ltb (n - 1 - k) n (omega arith)) rest
    ]

not_named : (f : ℕ → ℕ) (n k p : ℕ) → p + k < n → named p (repairs f n k) ≡ false
not_named f n zero p before = refl
not_named f n (suc k) p before =
    let rest = not_named f n k p (omega arith) in
    elim (eqb (f (power k)) 0) as (λ t. named p (cond t (repairs f n k) (record { place = n - 1 - k; octet = f (power k) } ∷ repairs f n k)) ≡ false) [
      | true ↦ rest
      | false ↦ ap₂ ◌||◌ (ne_eqb (n - 1 - k) p (λ e. omega arith)) rest
    ]

pub repairs_once : (f : ℕ → ℕ) (n k : ℕ) → k ≤ n → once (repairs f n k) ≡ true
repairs_once f n zero le = refl
repairs_once f n (suc k) le =
    let rest = repairs_once f n k (omega arith) in
    let new = not_named f n k (n - 1 - k) (omega arith) in
    elim (eqb (f (power k)) 0) as (λ t. once (cond t (repairs f n k) (record { place = n - 1 - k; octet = f (power k) } ∷ repairs f n k)) ≡ true) [
      | true ↦ rest
      | false ↦ ap₂ (λ a b. not a && b) new rest
    ]

pub repairs_nonzero : (f : ℕ → ℕ) (n k : ℕ) → nonzero (repairs f n k) ≡ true
repairs_nonzero f n zero = refl
repairs_nonzero f n (suc k) =
    let rest = repairs_nonzero f n k in
    (elim (eqb (f (power k)) 0) as (λ t. eqb (f (power k)) 0 ≡ t → nonzero (cond t (repairs f n k) (record { place = n - 1 - k; octet = f (power k) } ∷ repairs f n k)) ≡ true) [
      | true ↦ λ z. rest
      | false ↦ λ z. ap₂ (λ a b. not a && b) z rest
    ]) refl

ascending_behind : (f : ℕ → ℕ) (n k p o : ℕ) → p + k < n → Ascending (record { place = p; octet = o } ∷ repairs f n k)
ascending_behind f n zero p o before = tt
ascending_behind f n (suc k) p o before =
    let skip = ascending_behind f n k p o (omega arith) in
    let next = ascending_behind f n k (n - 1 - k) (f (power k)) (omega arith) in
    let above : p < n - 1 - k = omega arith in
    elim (eqb (f (power k)) 0) as (λ t. Ascending (record { place = p; octet = o } ∷ cond t (repairs f n k) (record { place = n - 1 - k; octet = f (power k) } ∷ repairs f n k))) [
      | true ↦ skip
      | false ↦ (above, next)
    ]

pub repairs_ascending : (f : ℕ → ℕ) (n k : ℕ) → k ≤ n → Ascending (repairs f n k)
repairs_ascending f n zero le = tt
repairs_ascending f n (suc k) le =
    let rest = repairs_ascending f n k (omega arith) in
    let next = ascending_behind f n k (n - 1 - k) (f (power k)) (omega arith) in
    elim (eqb (f (power k)) 0) as (λ t. Ascending (cond t (repairs f n k) (record { place = n - 1 - k; octet = f (power k) } ∷ repairs f n k))) [
      | true ↦ rest
      | false ↦ next
    ]

-- what is added to an octet and gives an octet is one
added_octet : (a o : ℕ) → Octet a → Octet (bit_xor a o) → Octet o
added_octet a o ha hb = subst Octet (sym (xor_assoc a a o) ∙ ap (λ x. bit_xor x o) (xor_self a) ∙ xor_zero_l o) (xor_lt 8 a (bit_xor a o) ha hb)

pub repairs_add : (f : ℕ → ℕ) (n : ℕ) (w : List ℕ) → Each Octet w → Each Octet (patch octets power f w) → Each Adds (repairs f n (length w))
repairs_add f n [] h g = tt
repairs_add f n (a ∷ w) h g =
    let k = length w in
    let rest = repairs_add f n w h.1 g.1 in
    let here = added_octet a (f (power k)) h.0 g.0 in
    elim (eqb (f (power k)) 0) as (λ t. Each Adds (cond t (repairs f n k) (record { place = n - 1 - k; octet = f (power k) } ∷ repairs f n k))) [
      | true ↦ rest
      | false ↦ (here, rest)
    ]

pub repairs_difference : (f : ℕ → ℕ) (w : List ℕ) → Difference w (patch octets power f w) (repairs f (length w) (length w))
repairs_difference f w = record {
  places = repairs_inside f (length w) (length w) (omega arith);
  apart = repairs_once f (length w) (length w) (omega arith);
  real = repairs_nonzero f (length w) (length w);
  turns = changed_repairs f w;
}

-- no more places are corrected than the vector has roots
pub repairs_few : (s : ℕ → ℕ) (v ys : List ℕ) (n k : ℕ) → length (repairs (correction octets s v ys) n k) ≤ length (roots octets power v k)
repairs_few s v ys n zero = omega arith
repairs_few s v ys n (suc k) =
    let f = correction octets s v ys in
    let y = power k in
    let R = repairs f n k in
    let Z = roots octets power v k in
    let rest = repairs_few s v ys n k in
    let either : (m : ℕ) → length (cond (eqb m 0) R (record { place = n - 1 - k; octet = m } ∷ R)) ≤ suc (length Z) =
    λ m. elim (eqb m 0) as (λ t. length (cond t R (record { place = n - 1 - k; octet = m } ∷ R)) ≤ suc (length Z)) [ true ↦ omega arith | false ↦ omega arith ] in
    elim (eqb (eval_low octets v y) 0) as (λ t. let m = cond t (magnitude octets s ys y) 0 in
    length (cond (eqb m 0) R (record { place = n - 1 - k; octet = m } ∷ R)) ≤ length (cond t (y ∷ Z) Z)) [
      | true ↦ either (magnitude octets s ys y)
      | false ↦ rest
    ]

pub repairs_same : (f g : ℕ → ℕ) (n k : ℕ) → ((y : ℕ) → f y ≡ g y) → repairs f n k ≡ repairs g n k
repairs_same f g n zero e = refl
repairs_same f g n (suc k) e =
    ap₂ (λ m R. cond (eqb m 0) R (record { place = n - 1 - k; octet = m } ∷ R)) (e (power k)) (repairs_same f g n k e)
