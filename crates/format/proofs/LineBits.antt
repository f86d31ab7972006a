-- Octets as bits in line order, and back.
use Rattle.std.proofs.Common.{◌≡◌, ℕ, zero, suc, ◌+◌, ◌-◌, ◌*◌, ◌/◌, ◌%◌, ◌^◌, ◌<◌, ◌≤◌, List, [], ◌∷◌, ◌++◌, length, get_or, take, drop, sym, refl, ap, ◌∙◌, ap₂, le_trans, mul_comm, pow-suc, arith, pow_mono}
use native.Mathlib.Nat.{div-div-eq-div-mul}
use Rattle.std.specs.List.{AllByRecursion as Each}
use Rattle.std.proofs.lemmas.List.{take_at, drop_at, append_assoc, length-take, get_or_append_left, get_or-append_right}
use Rattle.std.proofs.ByRecursion.{All-append, All-take, All-drop}
use Rattle.elements.specs.Octets.{Octet}
use Rattle.format.specs.Sequences.{value}
use Rattle.format.specs.Bits.{bits, line, octets_of}
use Rattle.format.proofs.Lengths.{length_bits}

abbrev pub Bit : ℕ → Type 0
Bit b = b < 2

-- ---- a number and its bits

pub bits_below : (n o : ℕ) → Each Bit (bits n o)
unfolding bits
bits_below zero o = tt
bits_below (suc n) o = (omega arith, bits_below n (o / 2))

pub value_below : (bs : List ℕ) → Each Bit bs → value bs < 2 ^ length bs
value_below [] h = omega arith
value_below (b ∷ bs) h = omega (arith, h.0, value_below bs h.1, pow-suc 2 (length bs))

-- eight bits, or fewer, are an octet
pub value_octet : (bs : List ℕ) → Each Bit bs → length bs ≤ 8 → Octet (value bs)
value_octet bs h le = le_trans (value_below bs h) (pow_mono le)

pub value_bits : (n o : ℕ) → o < 2 ^ n → value (bits n o) ≡ o
unfolding bits
value_bits zero o h = omega arith
value_bits (suc n) o h = omega (arith, value_bits n (o / 2) (omega (arith, pow-suc 2 n)))

pub bits_value : (bs : List ℕ) → Each Bit bs → bits (length bs) (value bs) ≡ bs
unfolding bits
bits_value [] h = refl
bits_value (b ∷ bs) h =
    let low = h.0 in
    let v = value bs in
    ap₂ (λ x xs. x ∷ xs) (omega arith) (ap (bits (length bs)) (let e : (b + 2 * v) / 2 ≡ v = omega arith in e) ∙ bits_value bs h.1)

pub get_d_bits : (n o i : ℕ) → i < n → get_or (bits n o) i 0 ≡ o / 2 ^ i % 2
unfolding bits
get_d_bits zero o i h = absurd (omega arith)
get_d_bits (suc n) o zero h = omega arith
get_d_bits (suc n) o (suc i) h =
    get_d_bits n (o / 2) i (omega arith) ∙ ap (λ x. x % 2) (div-div-eq-div-mul o 2 (2 ^ i) ∙ ap (λ p. o / p) (mul_comm 2 (2 ^ i) ∙ sym (pow-suc 2 i)))

-- ---- octets in line order

pub line_bits : (os : List ℕ) → Each Bit (line os)
unfolding line
line_bits [] = tt
line_bits (o ∷ os) = All-append Bit (bits 8 o) (line os) (bits_below 8 o) (line_bits os)

pub line_append : (xs ys : List ℕ) → line (xs ++ ys) ≡ line xs ++ line ys
unfolding line
line_append [] ys = refl
line_append (x ∷ xs) ys = ap (λ l. bits 8 x ++ l) (line_append xs ys) ∙ sym (append_assoc (bits 8 x) (line xs) (line ys))

pub octets_of_line : (os rest : List ℕ) → Each Octet os → octets_of (length os) (line os ++ rest) ≡ os
unfolding octets_of line
octets_of_line [] rest h = refl
octets_of_line (o ∷ os) rest h =
    let e = append_assoc (bits 8 o) (line os) rest in
    ap₂ (λ x xs. x ∷ xs)
    (ap value (ap (take 8) e ∙ take_at (bits 8 o) (line os ++ rest) 8 (length_bits 8 o)) ∙ value_bits 8 o h.0)
    (ap (octets_of (length os)) (ap (drop 8) e ∙ drop_at (bits 8 o) (line os ++ rest) 8 (length_bits 8 o)) ∙ octets_of_line os rest h.1)

pub octets_of_octets : (n : ℕ) (bs : List ℕ) → Each Bit bs → Each Octet (octets_of n bs)
unfolding octets_of
octets_of_octets zero bs h = tt
octets_of_octets (suc n) bs h =
    (value_octet (take 8 bs) (All-take Bit 8 bs h) (omega (arith, length-take 8 bs)), octets_of_octets n (drop 8 bs) (All-drop Bit 8 bs h))

-- bit i of octet j
pub get_or_line : (os : List ℕ) (j i : ℕ) → j < length os → i < 8 → get_or (line os) (8 * j + i) 0 ≡ get_or (bits 8 (get_or os j 0)) i 0
unfolding line
get_or_line [] j i hj hi = absurd (omega arith)
get_or_line (o ∷ os) zero i hj hi = ap (λ k. get_or (bits 8 o ++ line os) k 0) (omega arith) ∙ get_or_append_left (bits 8 o) (line os) 0 i (omega (arith, length_bits 8 o))
get_or_line (o ∷ os) (suc j) i hj hi =
    get_or-append_right (bits 8 o) (line os) 8 (8 * suc j + i) 0 (length_bits 8 o) (omega arith)
    ∙ ap (λ k. get_or (line os) k 0) (let e : 8 * suc j + i - 8 ≡ 8 * j + i = omega arith in e) ∙ get_or_line os j i (omega arith) hi
