-- The first place of an octet, and of a bad digit, in the library's words.
use Rattle.std.proofs.Common.{◌≡◌, ℕ, ◌+◌, ◌<◌, not, cond, eqb, position, List, [], ◌∷◌, length, Some, None, Option, MatchOption, sym, refl, ap, ◌∙◌, arith}
use Rattle.std.proofs.lemmas.Bool.Decides.{nat_tests}
use Rattle.std.specs.List.{position_or_len, position_from}
use Rattle.std.proofs.lemmas.List.Sums.{prefix_len-le-length}
use Rattle.std.proofs.lemmas.List.Recursion.{is_position_or_len}
use Rattle.std.proofs.lemmas.Iterator.Adapters.{position_from-zero}
use Rattle.captures.specs.Lines.{place_from, place}
use Rattle.captures.specs.Windows.{chip_digit, bad_digit_from, bad_digit}

shift : (i x : ℕ) (os : List ℕ) → place_from (i + 1) x os ≡ 1 + place_from i x os
shift i x [] = omega arith
shift i x (o ∷ os) = grind (arith, nat_tests, shift (i + 1) x os)

pub place_is : (x : ℕ) (t : List ℕ) → position_or_len (λ o. eqb o x) t ≡ place x t
place_is x t = sym (is_position_or_len (place x) (λ o. eqb o x) refl (λ o os. ap (cond (eqb o x) 0) (shift 0 x os)) t)

pub found : (x : ℕ) (t : List ℕ) (r : Option ℕ) → r ≡ position (λ o. eqb o x) t → MatchOption r (place x t ≡ length t) (λ i. (i < length t) × (place x t ≡ i))
found x t None e = grind (arith, nat_tests, place_is, prefix_len-le-length)
found x t (Some i) e = grind (arith, nat_tests, place_is)

bad_from : (i : ℕ) (ds : List ℕ) → position_from (λ d. not (chip_digit d)) i ds ≡ bad_digit_from i ds
bad_from i [] = refl
bad_from i (d ∷ ds) = grind (arith, nat_tests, bad_from (i + 1) ds)

pub bad_digit_is : (ds : List ℕ) → position (λ d. not (chip_digit d)) ds ≡ bad_digit ds
bad_digit_is ds = position_from-zero (λ d. not (chip_digit d)) ds ∙ bad_from 0 ds
