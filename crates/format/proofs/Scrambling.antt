-- Scrambling twice gives the octets back, and the sequence goes on from one part to the next.
use Rattle.std.proofs.Common.{◌≡◌, ℕ, zero, suc, ◌+◌, ◌*◌, ◌<◌, List, [], ◌∷◌, ◌++◌, length, sym, refl, ap, ◌∙◌, ap₂, suc-add, zero-add, arith}
use lib.Bits.{bit_xor, xor_assoc, xor_self, xor_zero_r, xor_lt}
use Rattle.std.specs.List.{AllByRecursion as Each}
use Rattle.elements.specs.Octets.{Octet}
use Rattle.format.specs.Sequences.{next, advanced, after, drawn, key, mixed}
use Rattle.format.proofs.Lengths.{length_drawn}
use Rattle.format.proofs.LineBits.{Bit, value_octet}

-- ---- the register

pub after_after : (m n r : ℕ) → after n (after m r) ≡ after (m + n) r
unfolding after
after_after zero n r = ap (λ k. after k r) (sym (zero-add n))
after_after (suc m) n r = after_after m n (advanced r) ∙ ap (λ k. after k r) (sym (suc-add m n))

pub next_bit : (r : ℕ) → next r < 2
unfolding next
next_bit r = omega arith

pub drawn_bits : (n r : ℕ) → Each Bit (drawn n r)
unfolding drawn
drawn_bits zero r = tt
drawn_bits (suc n) r = (next_bit r, drawn_bits n (advanced r))

pub key_octet : (r : ℕ) → Octet (key r)
unfolding key
key_octet r = value_octet (drawn 8 r) (drawn_bits 8 r) (omega (arith, length_drawn 8 r))

-- ---- octets with the sequence added

pub mixed_octets : (r : ℕ) (os : List ℕ) → Each Octet os → Each Octet (mixed r os)
unfolding mixed
mixed_octets r [] h = tt
mixed_octets r (o ∷ os) h = (xor_lt 8 o (key r) h.0 (key_octet r), mixed_octets (after 8 r) os h.1)

pub xor_twice : (a b : ℕ) → bit_xor (bit_xor a b) b ≡ a
xor_twice a b = xor_assoc a b b ∙ ap (bit_xor a) (xor_self b) ∙ xor_zero_r a

pub mixed_twice : (r : ℕ) (os : List ℕ) → mixed r (mixed r os) ≡ os
unfolding mixed
mixed_twice r [] = refl
mixed_twice r (o ∷ os) = ap₂ (λ x xs. x ∷ xs) (xor_twice o (key r)) (mixed_twice (after 8 r) os)

pub mixed_append : (r : ℕ) (xs ys : List ℕ) → mixed r (xs ++ ys) ≡ mixed r xs ++ mixed (after (8 * length xs) r) ys
unfolding mixed after
mixed_append r [] ys = refl
mixed_append r (x ∷ xs) ys =
    ap (λ l. bit_xor x (key r) ∷ l) (mixed_append (after 8 r) xs ys ∙ ap (λ s. mixed (after 8 r) xs ++ mixed s ys)
    (after_after 8 (8 * length xs) r ∙ ap (λ n. after n r) (let e : 8 + 8 * length xs ≡ 8 * suc (length xs) = omega arith in e)))
