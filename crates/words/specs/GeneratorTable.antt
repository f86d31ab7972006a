-- The generator's coefficients, computed from its roots.
use Rattle.std.specs.Prelude.{◌≡◌, ℕ, ◌≤◌, List, [], ◌∷◌, replicate, slice_index, refl}
use Rattle.std.proofs.Common.{sym, ap, subst, ◌∙◌, lit<}
use Rattle.std.specs.List.{AllByRecursion as Each}
use Rattle.std.proofs.lemmas.List.{get_or_past}
use Rattle.elements.specs.Octets.{Octet, octets, product, times, double, power}
use Rattle.polynomials.specs.Checks.{Generates}
use Rattle.coding.specs.Codewords.{generator, roots_up_to}

abbrev coefficients : List ℕ
coefficients = 1 ∷ 118 ∷ 52 ∷ 103 ∷ 31 ∷ 104 ∷ 126 ∷ 187 ∷ 232 ∷ 17 ∷ 56 ∷ 183 ∷ 49 ∷ 100 ∷ 81 ∷ 44 ∷ 79 ∷ []

pub generator_is : coefficients ≡ generator
unfolding generator roots_up_to product times double power
generator_is = refl

coefficients_proper : Each Octet coefficients
coefficients_proper =
    (lit< tt, (lit< tt, (lit< tt, (lit< tt, (lit< tt, (lit< tt, (lit< tt, (lit< tt, (lit< tt, (lit< tt, (lit< tt, (lit< tt, (lit< tt, (lit< tt, (lit< tt, (lit< tt, (lit< tt, tt)))))))))))))))))

zeros_proper : Each Octet (replicate 16 0)
zeros_proper =
    (lit< tt, (lit< tt, (lit< tt, (lit< tt, (lit< tt, (lit< tt, (lit< tt, (lit< tt, (lit< tt, (lit< tt, (lit< tt, (lit< tt, (lit< tt, (lit< tt, (lit< tt, (lit< tt, tt))))))))))))))))

pub parity_generates : Generates Octet octets 16 generator (replicate 16 0)
parity_generates =
    subst (λ l. Generates Octet octets 16 l (replicate 16 0)) generator_is
    record { some = lit< tt; few = lit< tt; long = refl; leads = refl; preset_long = refl; proper = coefficients_proper; preset_proper = zeros_proper }

-- the table at a place, and zero past its end
pub coefficient : (xs : List ℕ) (i : ℕ) → xs ≡ coefficients → slice_index xs i ≡ slice_index generator i
coefficient xs i e = ap (λ l. slice_index l i) (e ∙ generator_is)

pub no_coefficient : (i : ℕ) → 17 ≤ i → 0 ≡ slice_index generator i
no_coefficient i h = sym (ap (λ l. slice_index l i) (sym generator_is) ∙ get_or_past coefficients i 0 h)
