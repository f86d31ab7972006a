-- The register's steps, as shifts and masks.
use Rattle.std.proofs.Common.{◌≡◌, ℕ, zero, suc, ◌+◌, ◌*◌, ◌/◌, ◌%◌, ◌^◌, ◌<◌, refl, ap, ◌∙◌, ap₂, mul_assoc, mul-add, mul_comm, pow-suc, suc-add, arith}
use lib.Bits.{bit_and, bit_or, bit_xor, xor_add_and, or_shifted_r}
use Rattle.std.proofs.lemmas.Nat.{and_mask, or_shifted, shl_whole, pow-add, mul-le}
use Rattle.format.specs.Sequences.{value, next, advanced, after, drawn}

-- the lowest bit of a sum without carry
low_xor : (a b : ℕ) → bit_and (bit_xor a b) 1 ≡ (a + b) % 2
low_xor a b =
    let sum : bit_xor a b + bit_and a b * 2 ≡ a + b = xor_add_and a b in
    and_mask (bit_xor a b) 1 ∙ omega (arith, sum)

pub next_code : (r : ℕ) → bit_and (bit_xor (r / 2 ^ 13) (r / 2 ^ 14)) 1 ≡ next r
unfolding next
next_code r = low_xor (r / 2 ^ 13) (r / 2 ^ 14)

pub next_below : (r : ℕ) → next r < 2
unfolding next
next_below r = omega arith

pub advanced_code : (r b : ℕ) → r < 2 ^ 15 → b ≡ next r → bit_and (bit_or (r * 2 % 2 ^ 16) b) 0x7fff ≡ advanced r
unfolding advanced
advanced_code r b h e =
    let whole : r * 2 % 2 ^ 16 ≡ r * 2 ^ 1 = omega arith in
    let one : b < 2 ^ 1 = omega (arith, e, next_below r) in
    ap (λ n. bit_and (bit_or n b) 0x7fff) whole ∙ ap (λ n. bit_and n 0x7fff) (or_shifted r 1 b one) ∙ and_mask (r * 2 ^ 1 + b) 15 ∙ ap (λ n. (r * 2 + n) % 2 ^ 15) e

-- one bit more of an octet: what is gathered so far, and what the bits to come add to it
pub gather_more : (k o b v whole : ℕ) → k < 8 → o < 2 ^ k → b < 2 → o + 2 ^ k * (b + 2 * v) ≡ whole
    → (bit_or o (b * 2 ^ k % 2 ^ 8) < 2 ^ (k + 1)) × (bit_or o (b * 2 ^ k % 2 ^ 8) + 2 ^ (k + 1) * v ≡ whole)
gather_more k o b v whole h low one all =
    let made : bit_or o (b * 2 ^ k % 2 ^ 8) ≡ b * 2 ^ k + o = ap (bit_or o) (shl_whole b 1 k 8 one (omega arith)) ∙ or_shifted_r b k o low in
    let twice : 2 ^ (k + 1) ≡ 2 ^ k * 2 = pow-add 2 k 1 in (
      omega (arith, made, twice, mul-le b (2 ^ k) 1 (2 ^ k) (omega arith) (omega arith)),
      ap₂ (λ m p. m + p * v) made twice ∙ omega (arith, mul-add (2 ^ k) b (2 * v), mul_assoc (2 ^ k) 2 v) ∙ all,
    )

-- a number gathered from bits stays below the next bit's place
drawn_below : (n r : ℕ) → value (drawn n r) < 2 ^ n
unfolding drawn
drawn_below zero r = omega arith
drawn_below (suc n) r = omega (arith, next_below r, drawn_below n (advanced r), pow-suc 2 n)

drawn_more : (n r : ℕ) → value (drawn (n + 1) r) ≡ value (drawn n r) + 2 ^ n * next (after n r)
unfolding drawn after
drawn_more zero r = omega arith
drawn_more (suc n) r =
    let rest = drawn_more n (advanced r) in
    let b = next (after n (advanced r)) in
    ap (λ k. value (drawn k r)) (suc-add n 1) ∙ omega (arith, rest, ap (λ p. p * b) (pow-suc 2 n), mul_assoc 2 (2 ^ n) b)

-- one bit more of an octet
pub octet_step : (k r : ℕ) → k < 8 → bit_or (value (drawn k r)) (next (after k r) * 2 ^ k % 2 ^ 8) ≡ value (drawn (k + 1) r)
octet_step k r h =
    let o = value (drawn k r) in
    let b = next (after k r) in
    ap (bit_or o) (shl_whole b 1 k 8 (next_below (after k r)) (omega arith)) ∙ or_shifted_r b k o (drawn_below k r)
    ∙ omega (arith, drawn_more k r, mul_comm b (2 ^ k))

-- the register after one bit more
pub after_step : (n r : ℕ) → after (n + 1) r ≡ advanced (after n r)
unfolding after
after_step zero r = refl
after_step (suc n) r = ap (λ k. after k r) (suc-add n 1) ∙ after_step n (advanced r)
