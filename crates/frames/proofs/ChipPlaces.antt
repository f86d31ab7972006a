-- Which chip stands at a place.
use Rattle.std.proofs.Common.{◌≡◌, ℕ, zero, suc, ◌+◌, ◌*◌, ◌/◌, ◌%◌, ◌^◌, ◌<◌, List, [], ◌∷◌, ◌++◌, length, get_or, replicate, sym, refl, ap, ◌∙◌, ap₂, le_of_suc-le-suc, not-suc-le-zero, mul-zero, mul-suc, arith}
use lib.Bits.{bit_and, bit_xor}
use Rattle.std.proofs.lemmas.Nat.{and_mask}
use Rattle.std.proofs.lemmas.List.{get_or_append_left, get_or-append_right, get_or-replicate, length-replicate}
use Rattle.format.specs.Sequences.{next, advanced, after, drawn, spreader}
use Rattle.format.specs.Bits.{line}
use Rattle.format.specs.Payload.{repeated}
use Rattle.format.specs.Frame.{added, header_chips}
use Rattle.format.proofs.Lengths.{length_drawn, length_line, length_repeated}
use Rattle.format.proofs.BitPlaces.{line_at}

drawn_at : (n r i : ℕ) → i < n → get_or (drawn n r) i 0 ≡ next (after i r)
unfolding drawn after
drawn_at zero r i h = absurd (not-suc-le-zero h)
drawn_at (suc n) r zero h = refl
drawn_at (suc n) r (suc i) h = drawn_at n (advanced r) i (le_of_suc-le-suc h)

added_at : (xs ys : List ℕ) (i : ℕ) → i < length xs → i < length ys → get_or (added xs ys) i 0 ≡ bit_xor (get_or xs i 0) (get_or ys i 0)
unfolding added
added_at [] ys i h k = absurd (not-suc-le-zero h)
added_at (x ∷ xs) [] i h k = absurd (not-suc-le-zero k)
added_at (x ∷ xs) (y ∷ ys) zero h k = refl
added_at (x ∷ xs) (y ∷ ys) (suc i) h k = added_at xs ys i (le_of_suc-le-suc h) (le_of_suc-le-suc k)

-- of bits that are sent n times, chip i is bit i / n
pub repeated_at : (n : ℕ) (bs : List ℕ) (j r : ℕ) → j < length bs → r < n → get_or (repeated n bs) (n * j + r) 0 ≡ get_or bs j 0
unfolding repeated
repeated_at n [] j r h k = absurd (not-suc-le-zero h)
repeated_at n (b ∷ bs) zero r h k =
    ap (λ i. get_or (replicate n b ++ repeated n bs) i 0) (omega (arith, mul-zero n))
    ∙ get_or_append_left (replicate n b) (repeated n bs) 0 r (omega (arith, length-replicate n b)) ∙ get_or-replicate n r b 0 k
repeated_at n (b ∷ bs) (suc j) r h k =
    get_or-append_right (replicate n b) (repeated n bs) n (n * suc j + r) 0 (length-replicate n b) (omega (arith, mul-suc n j))
    ∙ ap (λ i. get_or (repeated n bs) i 0) (omega (arith, mul-suc n j)) ∙ repeated_at n bs j r (le_of_suc-le-suc h) k

-- chip i of a header: bit i / 16 of the word, and the spreader's bit i
pub header_chip : (word : List ℕ) (i y r : ℕ) → length word ≡ 32 → i < 4096 → r ≡ after i spreader → y ≡ next r
    → bit_xor (bit_and (get_or word (i / 128) 0 / 2 ^ (i / 16 % 8)) 1) y ≡ get_or (header_chips word) i 0
unfolding header_chips
header_chip word i y r long h er ey =
    let bits_long : length (line word) ≡ 256 = omega (arith, length_line word) in
    let octet : i / 128 ≡ i / 16 / 8 = omega arith in
    let place : 16 * (i / 16) + i % 16 ≡ i = omega arith in
    let bit : get_or (repeated 16 (line word)) i 0 ≡ bit_and (get_or word (i / 128) 0 / 2 ^ (i / 16 % 8)) 1 =
    sym (ap (λ k. get_or (repeated 16 (line word)) k 0) place)
    ∙ repeated_at 16 (line word) (i / 16) (i % 16) (omega arith) (omega arith)
    ∙ line_at word (i / 16) (omega arith)
    ∙ ap (λ k. get_or word k 0 / 2 ^ (i / 16 % 8) % 2) (sym octet)
    ∙ sym (and_mask (get_or word (i / 128) 0 / 2 ^ (i / 16 % 8)) 1) in
    ap₂ bit_xor (sym bit) (ey ∙ ap next er ∙ sym (drawn_at 4096 spreader i h))
    ∙ sym (added_at (repeated 16 (line word)) (drawn 4096 spreader) i (omega (arith, length_repeated 16 (line word))) (omega (arith, length_drawn 4096 spreader)))
