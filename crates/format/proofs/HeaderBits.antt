-- The PHY header's bits, as shifts and masks.
use Rattle.std.proofs.Common.{◌≡◌, ℕ, ◌+◌, ◌*◌, ◌/◌, ◌%◌, ◌^◌, ◌<◌, Bool, true, false, eqb, List, [], ◌∷◌, length, refl, arith}
use mir.Val.{bool_byte}
use Rattle.std.specs.Int.{w32, to_le_bytes, from_le_bytes}
use lib.Bits.{bit_or, bit_and, or_shifted_r}
use Rattle.std.proofs.lemmas.Nat.{and_mask}
use Rattle.format.specs.declared.phy.Phy.{Phy}
use Rattle.format.specs.Bits.{bit_of}
use Rattle.format.specs.Header.{packed, unpacked, low_first, joined}

flag_byte : (b : Bool) → bool_byte b ≡ bit_of b
flag_byte true = refl
flag_byte false = refl

bit_below : (b : Bool) → bit_of b < 2
bit_below true = omega arith
bit_below false = omega arith

-- four fields, each above the one before
four : (s f l r : ℕ) → s < 2 ^ 4 → f < 2 → l < 2 ^ 23 → r < 2 ^ 4
    → bit_or (bit_or (bit_or s (f * 2 ^ 4 % 2 ^ 32)) (l * 2 ^ 5 % 2 ^ 32)) (r * 2 ^ 28 % 2 ^ 32) ≡ s + f * 2 ^ 4 + l * 2 ^ 5 + r * 2 ^ 28
four s f l r hs hf hl hr =
    let a : f * 2 ^ 4 % 2 ^ 32 ≡ f * 2 ^ 4 = omega arith in
    let b : l * 2 ^ 5 % 2 ^ 32 ≡ l * 2 ^ 5 = omega arith in
    let d : r * 2 ^ 28 % 2 ^ 32 ≡ r * 2 ^ 28 = omega arith in
    rw (a, b, d, or_shifted_r f 4 s hs, or_shifted_r l 5 (f * 2 ^ 4 + s) (omega arith), or_shifted_r r 28 (l * 2 ^ 5 + (f * 2 ^ 4 + s)) (omega arith)) (omega arith)

pub packed_code : (h : Phy)
    → bit_or (bit_or (bit_or (bit_and h.seed 15) (bool_byte h.aggregation * 2 ^ 4 % 2 ^ 32)) (bit_and h.length 0x7fffff * 2 ^ 5 % 2 ^ 32)) (bit_and h.reserved 15 * 2 ^ 28 % 2 ^ 32) ≡ packed h
unfolding packed
packed_code h =
    rw (and_mask h.seed 4, flag_byte h.aggregation, and_mask h.length 23, and_mask h.reserved 4)
    (four (h.seed % 2 ^ 4) (bit_of h.aggregation) (h.length % 2 ^ 23) (h.reserved % 2 ^ 4) (omega arith) (bit_below h.aggregation) (omega arith) (omega arith))

pub octets_code : (w : ℕ) → to_le_bytes w32 w ≡ low_first 4 w
unfolding low_first
octets_code w =
    let two : w / 256 ^ 2 ≡ w / 256 / 256 = omega arith in
    let three : w / 256 ^ 3 ≡ w / 256 / 256 / 256 = omega arith in
    rw (two, three)

pub joined_code : (os : List ℕ) → length os ≡ 4 → from_le_bytes w32 os ≡ joined os
unfolding joined
joined_code [] long = absurd (omega arith)
joined_code (a ∷ []) long = absurd (omega arith)
joined_code (a ∷ b ∷ []) long = absurd (omega arith)
joined_code (a ∷ b ∷ d ∷ []) long = absurd (omega arith)
joined_code (a ∷ b ∷ d ∷ e ∷ f ∷ os) long = absurd (omega arith)
joined_code (a ∷ b ∷ d ∷ e ∷ []) long = omega arith

pub unpacked_code : (w : ℕ)
    → ◌≡◌ {A = Phy} record { seed = bit_and w 15; aggregation = eqb (bit_and (w / 2 ^ 4) 1) 1; length = bit_and (w / 2 ^ 5) 0x7fffff; reserved = w / 2 ^ 28 } (unpacked w)
unfolding unpacked
unpacked_code w = rw (and_mask w 4, and_mask (w / 2 ^ 4) 1, and_mask (w / 2 ^ 5) 23)
