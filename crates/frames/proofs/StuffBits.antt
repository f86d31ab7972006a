-- Stuff bits: zeros with the sequence added are the sequence.
use Rattle.std.proofs.Common.{◌≡◌, ℕ, zero, suc, ◌+◌, ◌-◌, ◌*◌, ◌≤◌, List, ◌∷◌, ◌++◌, length, drop, replicate, sym, refl, ap, ◌∙◌, ap₂, suc-add, zero-add, arith}
use Rattle.std.proofs.lemmas.List.{length-append, append_assoc, take-append-le, drop-append-le, length-drop}
use Rattle.format.specs.Sequences.{next, advanced, after, drawn, key, mixed}
use Rattle.format.specs.Bits.{bits, line}
use Rattle.format.specs.Payload.{word_count, coded_octets, block_count, stuff_count, coded, repeated, pilots, blocks}
use Rattle.format.proofs.LineBits.{bits_value, line_append}
use Rattle.format.proofs.Scrambling.{drawn_bits}
use Rattle.format.proofs.Lengths.{length_line, length_drawn, length_coded, words_hold, blocks_hold}
use Rattle.frames.specs.Blocks.{carried}

pub drawn_add : (m n r : ℕ) → drawn (m + n) r ≡ drawn m r ++ drawn n (after m r)
unfolding drawn after
drawn_add zero n r = ap (λ k. drawn k r) (zero-add n)
drawn_add (suc m) n r = ap (λ k. drawn k r) (suc-add m n) ∙ ap (λ l. next r ∷ l) (drawn_add m n (advanced r))

pub line_zeros : (n r : ℕ) → line (mixed r (replicate n 0)) ≡ drawn (8 * n) r
unfolding line mixed key drawn
line_zeros zero r = refl
line_zeros (suc n) r =
    let split : 8 + 8 * n ≡ 8 * suc n = omega arith in
    ap₂ ◌++◌ (ap (λ k. bits k (key r)) (sym (length_drawn 8 r)) ∙ bits_value (drawn 8 r) (drawn_bits 8 r)) (line_zeros n (after 8 r)) ∙ sym (drawn_add 8 (8 * n) r) ∙ ap (λ k. drawn k r) split

-- the blocks take only the bits that they carry
blocks_front : (n k : ℕ) (xs ys : List ℕ) → 508 * k ≤ length xs → blocks n k (xs ++ ys) ≡ blocks n k xs
unfolding blocks
blocks_front n zero xs ys h = refl
blocks_front n (suc k) xs ys h =
    let some : 508 ≤ length xs = omega arith in
    ap₂ (λ l t. repeated n l ++ (pilots n ++ t)) (take-append-le 508 xs ys some)
    (ap (blocks n k) (drop-append-le 508 xs ys some) ∙ blocks_front n k (drop 508 xs) ys (rw (length-drop 508 xs) (omega arith)))

-- as many bits as the blocks have places for
pub carried_long : (body : List ℕ) (r : ℕ) → length (carried body r) ≡ 508 * block_count (length body)
carried_long body r =
    let words = coded (word_count (length body)) body in
    let stuff = stuff_count (length body) in
    omega (arith, length-append (line words) (drawn stuff r), length_line words, length_coded (word_count (length body)) body (words_hold (length body)), length_drawn stuff r, blocks_hold (length body))

pub blocks_carried : (n m r : ℕ) (body os : List ℕ) → 508 * block_count (length body) ≤ 8 * m
    → os ≡ coded (word_count (length body)) body ++ mixed r (replicate (m - coded_octets (length body)) 0)
    → blocks n (block_count (length body)) (line os) ≡ blocks n (block_count (length body)) (carried body r)
blocks_carried n m r body os h e =
    let words = coded (word_count (length body)) body in
    let left = m - coded_octets (length body) in
    let stuff = stuff_count (length body) in
    let over = 8 * (m - coded_octets (length body)) - stuff_count (length body) in
    let split : 8 * (m - coded_octets (length body)) ≡ stuff_count (length body) + (8 * (m - coded_octets (length body)) - stuff_count (length body)) = omega arith in
    ap (λ l. blocks n (block_count (length body)) (line l)) e
    ∙ ap (blocks n (block_count (length body)))
    (line_append words (mixed r (replicate left 0))
    ∙ ap (λ l. line words ++ l) (line_zeros left r ∙ ap (λ k. drawn k r) split ∙ drawn_add stuff over r)
    ∙ sym (append_assoc (line words) (drawn stuff r) (drawn over (after stuff r))))
    ∙ blocks_front n (block_count (length body)) (carried body r) (drawn over (after stuff r)) (omega (arith, carried_long body r))
