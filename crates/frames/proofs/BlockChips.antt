-- The chips of a block, and blocks one behind the other.
use Rattle.std.proofs.Common.{◌≡◌, ℕ, zero, suc, ◌+◌, ◌-◌, ◌*◌, ◌/◌, ◌%◌, ◌^◌, ◌<◌, ◌≤◌, List, [], ◌∷◌, ◌++◌, length, get_or, take, drop, set, replicate, sym, refl, ap, ◌∙◌, mul_comm, add-one, arith}
use lib.Bits.{bit_and}
use Rattle.std.proofs.lemmas.Nat.{and_mask, div-add-mod', div_below, mod_below}
use Rattle.std.proofs.lemmas.List.{length-append, append_assoc, append-nil, length-take-le, length-drop, get_or_append_left, get_or-append_right, get_or-take, get_or-drop, drop-drop}
use Rattle.format.specs.Bits.{line}
use Rattle.format.specs.Payload.{repeated, pilots, blocks}
use Rattle.format.proofs.Lengths.{length_line, length_repeated}
use Rattle.format.proofs.BitPlaces.{line_at}
use Rattle.frames.specs.Blocks.{block_bits}
use Rattle.frames.proofs.Fronts.{place_more, all_places}
use Rattle.frames.proofs.ChipPlaces.{repeated_at}

data_long : (b : ℕ) (bs : List ℕ) → 508 * b + 508 ≤ length bs → length (take 508 (drop (508 * b) bs)) ≡ 508
data_long b bs h = length-take-le 508 (drop (508 * b) bs) (rw (length-drop (508 * b) bs) (omega arith))

block_long : (b : ℕ) (bs : List ℕ) → 508 * b + 508 ≤ length bs → length (block_bits b bs) ≡ 512
block_long b bs h = length-append (take 508 (drop (508 * b) bs)) (1 ∷ 0 ∷ 1 ∷ 0 ∷ []) ∙ ap (λ n. n + 4) (data_long b bs h)

pilot : (r : ℕ) → r < 4 → (508 + r + 1) % 2 ≡ get_or (1 ∷ 0 ∷ 1 ∷ 0 ∷ []) r 0
pilot zero h = refl
pilot (suc zero) h = refl
pilot (suc (suc zero)) h = refl
pilot (suc (suc (suc zero))) h = refl
pilot (suc (suc (suc (suc r)))) h = absurd (omega arith)

pub pilot_at : (b : ℕ) (bs : List ℕ) (q : ℕ) → 508 * b + 508 ≤ length bs → 508 ≤ q → q < 512 → (q + 1) % 2 ≡ get_or (block_bits b bs) q 0
pilot_at b bs q h low high =
    let same : q + 1 ≡ 508 + (q - 508) + 1 = omega arith in
    ap (λ n. n % 2) same ∙ pilot (q - 508) (omega arith)
    ∙ sym (get_or-append_right (take 508 (drop (508 * b) bs)) (1 ∷ 0 ∷ 1 ∷ 0 ∷ []) 508 q 0 (data_long b bs h) low)

pub data_at : (os : List ℕ) (b q : ℕ) → 508 * b + 508 ≤ 8 * length os → q < 508
    → bit_and (get_or os ((508 * b + q) / 8) 0 / 2 ^ ((508 * b + q) % 8)) 1 ≡ get_or (block_bits b (line os)) q 0
data_at os b q h low =
    let bs = line os in
    let fits : 508 * b + 508 ≤ length (line os) = omega (arith, length_line os) in
    and_mask (get_or os ((508 * b + q) / 8) 0 / 2 ^ ((508 * b + q) % 8)) 1
    ∙ sym (line_at os (508 * b + q) (omega arith))
    ∙ sym (get_or-drop (508 * b) bs q 0)
    ∙ sym (get_or-take 508 (drop (508 * b) bs) q 0 low)
    ∙ sym (get_or_append_left (take 508 (drop (508 * b) bs)) (1 ∷ 0 ∷ 1 ∷ 0 ∷ []) 0 q (omega (arith, data_long b bs fits)))

pub chips_long : (n b : ℕ) (bs : List ℕ) → 508 * b + 508 ≤ length bs → length (repeated n (block_bits b bs)) ≡ 512 * n
chips_long n b bs h = length_repeated n (block_bits b bs) ∙ ap (λ m. n * m) (block_long b bs h) ∙ mul_comm n 512

-- of bits that are sent n times, chip j is bit j / n
sent_at : (n b : ℕ) (bs : List ℕ) (j x : ℕ) → 0 < n → 508 * b + 508 ≤ length bs → j < 512 * n → x ≡ get_or (block_bits b bs) (j / n) 0
    → x ≡ get_or (repeated n (block_bits b bs)) j 0
sent_at n b bs j x some h k e =
    let row = block_bits b bs in
    let q : j / n < 512 = div_below j n 512 some k in
    let place : n * (j / n) + j % n ≡ j = ap (λ m. m + j % n) (mul_comm n (j / n)) ∙ div-add-mod' j n in
    e ∙ sym (repeated_at n row (j / n) (j % n) (omega (arith, block_long b bs h)) (mod_below j n some)) ∙ ap (λ i. get_or (repeated n row) i 0) place

-- one chip more of a block
pub chip_more : (chips os : List ℕ) (n b j x : ℕ) → 0 < n → 508 * b + 508 ≤ 8 * length os → length chips ≡ 512 * n → j < length chips → x ≡ get_or (block_bits b (line os)) (j / n) 0
    → take j chips ≡ take j (repeated n (block_bits b (line os))) → take (j + 1) (set chips j x) ≡ take (j + 1) (repeated n (block_bits b (line os)))
chip_more chips os n b j x some h long k e f =
    let bs = line os in
    let fits : 508 * b + 508 ≤ length (line os) = omega (arith, length_line os) in
    place_more chips (repeated n (block_bits b bs)) j x k (omega (arith, chips_long n b bs fits)) (sent_at n b bs j x some fits (omega arith) e) f

pub chips_all : (chips os : List ℕ) (n b j : ℕ) → 508 * b + 508 ≤ 8 * length os → length chips ≡ 512 * n → length chips ≤ j
    → take j chips ≡ take j (repeated n (block_bits b (line os))) → chips ≡ repeated n (block_bits b (line os))
chips_all chips os n b j h long k f = all_places chips (repeated n (block_bits b (line os))) j k (omega (arith, chips_long n b (line os) (omega (arith, length_line os)))) f

repeated_append : (n : ℕ) (xs ys : List ℕ) → repeated n (xs ++ ys) ≡ repeated n xs ++ repeated n ys
unfolding repeated
repeated_append n [] ys = refl
repeated_append n (x ∷ xs) ys = ap (λ l. replicate n x ++ l) (repeated_append n xs ys) ∙ sym (append_assoc (replicate n x) (repeated n xs) (repeated n ys))

-- one block more
pub blocks_more : (n k : ℕ) (bs : List ℕ) → blocks n k bs ++ repeated n (block_bits k bs) ≡ blocks n (k + 1) bs
unfolding blocks pilots
blocks_more n k bs = grown k bs ∙ sym (ap (λ m. blocks n m bs) (add-one k))
  where
    grown : (m : ℕ) (cs : List ℕ) → blocks n m cs ++ repeated n (block_bits m cs) ≡ blocks n (suc m) cs
    grown zero cs = repeated_append n (take 508 cs) (1 ∷ 0 ∷ 1 ∷ 0 ∷ []) ∙ ap (λ l. repeated n (take 508 cs) ++ l) (sym (append-nil (pilots n)))
    grown (suc m) cs =
        let r = repeated n (take 508 cs) in
        let rest = drop 508 cs in
        let place : 508 + 508 * m ≡ 508 * suc m = omega arith in
        append_assoc r (pilots n ++ blocks n m rest) (repeated n (block_bits (suc m) cs))
        ∙ ap (λ l. r ++ l) (append_assoc (pilots n) (blocks n m rest) (repeated n (block_bits (suc m) cs)))
        ∙ ap (λ l. r ++ (pilots n ++ (blocks n m rest ++ repeated n (take 508 l ++ (1 ∷ 0 ∷ 1 ∷ 0 ∷ []))))) (sym (drop-drop (508 * m) 508 cs ∙ ap (λ i. drop i cs) place))
        ∙ ap (λ l. r ++ (pilots n ++ l)) (grown m rest)
