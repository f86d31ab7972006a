-- Which bit stands at a place of a line of octets.
use Rattle.std.proofs.Common.{◌≡◌, ℕ, zero, suc, ◌-◌, ◌*◌, ◌/◌, ◌%◌, ◌^◌, ◌<◌, ◌≤◌, false, eqb, List, [], ◌∷◌, map, length, get_or, sym, ap, ◌∙◌, ap₂, ⊎_elim, le_of_suc-le-suc, not-suc-le-zero, arith}
use lib.Bits.{bit_and}
use Rattle.std.proofs.lemmas.Nat.{shr-shr, and_mask}
use Rattle.std.proofs.lemmas.List.{get_or_append_left, get_or-append_right, get_or-map, length-map}
use Rattle.std.proofs.lemmas.Bool.{cases_lt}
use Rattle.format.specs.Bits.{bits, line, flag}
use Rattle.format.proofs.Lengths.{length_bits, length_line}

pub bits_at : (n o i : ℕ) → i < n → get_or (bits n o) i 0 ≡ o / 2 ^ i % 2
unfolding bits
bits_at zero o i h = absurd (not-suc-le-zero h)
bits_at (suc n) o zero h = omega arith
bits_at (suc n) o (suc i) h =
    bits_at n (o / 2) i (le_of_suc-le-suc h) ∙ ap (λ x. x % 2) (shr-shr o 1 i ∙ ap (λ e. o / 2 ^ e) (omega arith))

-- bit i of a line is bit i % 8 of octet i / 8
abbrev Stands : List ℕ → ℕ → Type 0
Stands os i = get_or (line os) i 0 ≡ get_or os (i / 8) 0 / 2 ^ (i % 8) % 2

in_first : (o : ℕ) (os : List ℕ) (i : ℕ) → i < 8 → Stands (o ∷ os) i
unfolding line
in_first o os i h =
    let first : i / 8 ≡ 0 = omega arith in
    let same : i % 8 ≡ i = omega arith in
    get_or_append_left (bits 8 o) (line os) 0 i (omega (arith, length_bits 8 o)) ∙ bits_at 8 o i h
    ∙ sym (ap₂ (λ a b. get_or (o ∷ os) a 0 / 2 ^ b % 2) first same)

past_first : (o : ℕ) (os : List ℕ) (i : ℕ) → 8 ≤ i → Stands os (i - 8) → Stands (o ∷ os) i
unfolding line
past_first o os i h rest =
    let next : i / 8 ≡ suc ((i - 8) / 8) = omega arith in
    let same : i % 8 ≡ (i - 8) % 8 = omega arith in
    get_or-append_right (bits 8 o) (line os) 8 i 0 (length_bits 8 o) h ∙ rest
    ∙ sym (ap₂ (λ a b. get_or (o ∷ os) a 0 / 2 ^ b % 2) next same)

pub line_at : (os : List ℕ) (i : ℕ) → i < 8 * length os → get_or (line os) i 0 ≡ get_or os (i / 8) 0 / 2 ^ (i % 8) % 2
line_at [] i h = absurd (omega arith)
line_at (o ∷ os) i h = ⊎_elim (in_first o os i) (λ k. past_first o os i k (line_at os (i - 8) (omega arith))) (cases_lt i 8)

-- the same as a test, which is what a bit of a check is
pub flag_at : (os : List ℕ) (i : ℕ) → i < 8 * length os → eqb (bit_and (get_or os (i / 8) 0 / 2 ^ (i % 8)) 1) 1 ≡ get_or (map flag (line os)) i false
flag_at os i h =
    ap flag (and_mask (get_or os (i / 8) 0 / 2 ^ (i % 8)) 1 ∙ sym (line_at os i h))
    ∙ sym (get_or-map flag (line os) i 0 false (omega (arith, length_line os)))

pub length_flags : (os : List ℕ) → length (map flag (line os)) ≡ 8 * length os
length_flags os = length-map (line os) flag ∙ length_line os
