-- Payload bits and octets, with the chips masked.
use Rattle.std.proofs.Common.{◌≡◌, ℕ, zero, suc, ◌+◌, ◌-◌, ◌*◌, ◌/◌, ◌%◌, ◌^◌, ◌<◌, ◌≤◌, Bool, true, false, cond, leb, List, [], ◌∷◌, ◌++◌, map, length, get_or, take, drop, set, replicate, Some, None, sym, refl, ap, ◌∙◌, ap₂, mul-add, arith, length-drop, length-take}
use lib.Bits.{bit_and, bit_or}
use lib.ListN.{length-map}
use Rattle.std.specs.List.{range_with_len, AllByRecursion as Each}
use Rattle.std.proofs.lemmas.Nat.{and_mask, mul-le}
use Rattle.std.proofs.lemmas.List.{append_assoc, append-nil, set_at, take-map, drop-map, take-replicate, drop-replicate}
use Rattle.std.proofs.lemmas.List.FromFn.{length-map-range_with_len, map-range_with_len_more}
use Rattle.std.proofs.lemmas.Bool.{leb-true, cond-true, cond-false}
use Rattle.format.specs.declared.mode.Mode.{Mode}
use Rattle.format.specs.declared.mode.Mode.TheVariants.{M1, M2, M3, M4, M5, M6, M7}
use Rattle.format.specs.Sequences.{value}
use Rattle.format.specs.Modes.{row}
use Rattle.format.specs.Reading.{bad_from, block_place, block_chips, payload_bit, payload_octet, payload_octets, word_length, word_read}
use Rattle.format.proofs.Registers.{gather_more}
use Rattle.windows.specs.Parts.{block_in, first_bad}
use Rattle.slicer.specs.Slices.{Chip, masked}

-- ---- masks

pub masked_same : (w : List ℕ) → Each Chip w → masked w ≡ w
unfolding masked
masked_same [] good = refl
masked_same (c ∷ cs) good = ap₂ (λ a l. a ∷ l) (omega (arith, good.0)) (masked_same cs good.1)

-- a window with no bad chip holds chips alone
good_from : (i : ℕ) (w : List ℕ) → bad_from i w ≡ None → Each Chip w
good_from i [] e = tt
good_from i (c ∷ cs) e =
    (elim (leb c 1) as (λ t. leb c 1 ≡ t → cond t (bad_from (i + 1) cs) (Some i) ≡ None → Each Chip (c ∷ cs)) [
      | true ↦ λ t e. (omega (arith, leb-true c 1 t), good_from (i + 1) cs e)
      | false ↦ λ t e. let z : ◌≡◌ {A = ℕ} 0 1 = cc in absurd (omega arith)
    ]) refl e

pub good_chips : (w : List ℕ) → first_bad w ≡ None → Each Chip w
good_chips w e = good_from 0 w e

get_or_masked : (w : List ℕ) (i : ℕ) → get_or (masked w) i 0 ≡ get_or w i 0 % 2
unfolding masked
get_or_masked [] i = refl
get_or_masked (c ∷ cs) zero = refl
get_or_masked (c ∷ cs) (suc i) = get_or_masked cs i

cond_masked : (t : Bool) (w : List ℕ) → cond t (masked w) [] ≡ masked (cond t w [])
unfolding masked
cond_masked true w = refl
cond_masked false w = refl

block_masked : (m : Mode) (b : ℕ) (w : List ℕ) → block_chips m b (masked w) ≡ masked (block_chips m b w)
unfolding block_chips masked
block_masked m b w =
    let n = 508 * (row m).spread in
    let p = block_place m b in
    ap₂ (λ size l. cond (leb (block_place m (b + 1)) size) (take n l) []) (length-map w (λ c. c % 2)) (drop-map (λ c. c % 2) p w)
    ∙ ap (λ l. cond (leb (block_place m (b + 1)) (length w)) l []) (take-map (λ c. c % 2) n (drop p w))
    ∙ cond_masked (leb (block_place m (b + 1)) (length w)) (take n (drop p w))

bit_masked : (m : Mode) (w : List ℕ) (k : ℕ) → payload_bit m (masked w) k ≡ payload_bit m w k % 2
unfolding payload_bit
bit_masked m w k = ap (λ l. get_or l ((row m).spread * (k % 508)) 0) (block_masked m (k / 508) w) ∙ get_or_masked (block_chips m (k / 508) w) ((row m).spread * (k % 508))

-- ---- a bit

pub spread_small : (m : Mode) → (1 ≤ (row m).spread) × ((row m).spread ≤ 2)
spread_small M1 = (omega arith, omega arith)
spread_small M2 = (omega arith, omega arith)
spread_small M3 = (omega arith, omega arith)
spread_small M4 = (omega arith, omega arith)
spread_small M5 = (omega arith, omega arith)
spread_small M6 = (omega arith, omega arith)
spread_small M7 = (omega arith, omega arith)

pub block_long : (m : Mode) (b : ℕ) (w : List ℕ) → block_in m b w ≡ true → length (block_chips m b w) ≡ 508 * (row m).spread
unfolding block_chips
block_long m b w e =
    let p = block_place m b in
    let ends = leb-true (block_place m (b + 1)) (length w) e in
    ap length (cond-true _ _ _ e) ∙ length-take (508 * (row m).spread) (drop p w)
    ∙ omega (arith, ends, length-drop p w, mul-add (512 * (row m).spread) b 1)

pub bit_none : (m : Mode) (w : List ℕ) (k : ℕ) → block_in m (k / 508) w ≡ false → 0 ≡ payload_bit m (masked w) k
unfolding payload_bit block_chips
bit_none m w k e = sym (bit_masked m w k ∙ ap (λ l. get_or l ((row m).spread * (k % 508)) 0 % 2) (cond-false _ _ _ e))

pub bit_some : (m : Mode) (w chips : List ℕ) (k s : ℕ) → chips ≡ block_chips m (k / 508) w → s ≡ (row m).spread → bit_and (get_or chips (s * (k % 508)) 0) 1 ≡ payload_bit m (masked w) k
unfolding payload_bit
bit_some m w chips k s e es =
    and_mask (get_or chips (s * (k % 508)) 0) 1 ∙ ap₂ (λ l n. get_or l (n * (k % 508)) 0 % 2) e es ∙ sym (bit_masked m w k)

pub bit_below : (m : Mode) (w : List ℕ) (k : ℕ) → payload_bit m (masked w) k < 2
bit_below m w k = omega (arith, bit_masked m w k)

pub bit_inside : (m : Mode) (w chips : List ℕ) (k s : ℕ) → block_in m (k / 508) w ≡ true → chips ≡ block_chips m (k / 508) w → s ≡ (row m).spread → s * (k % 508) < length chips
bit_inside m w chips k s e ec es =
    let size = ap length ec ∙ block_long m (k / 508) w e in
    omega (arith, size, es, spread_small m, mul-le s (k % 508) s 507 (omega arith) (omega arith))

-- ---- an octet

pub octet_starts : (m : Mode) (w : List ℕ) (j : ℕ) → value (map (λ i. payload_bit m w (8 * j + i)) (range_with_len 0 8)) ≡ payload_octet m w j
unfolding payload_octet
octet_starts m w j = refl

pub payload_more : (m : Mode) (w : List ℕ) (j k o b whole : ℕ) → k < 8 → o < 2 ^ k → b ≡ payload_bit m (masked w) (8 * j + k)
    → o + 2 ^ k * value (map (λ i. payload_bit m (masked w) (8 * j + i)) (range_with_len k (8 - k))) ≡ whole
    → (bit_or o (b * 2 ^ k % 2 ^ 8) < 2 ^ (k + 1))
    × (bit_or o (b * 2 ^ k % 2 ^ 8) + 2 ^ (k + 1) * value (map (λ i. payload_bit m (masked w) (8 * j + i)) (range_with_len (k + 1) (8 - (k + 1)))) ≡ whole)
payload_more m w j k o b whole h low e all =
    let n : 8 - k ≡ suc (8 - (k + 1)) = omega arith in
    let rest = value (map (λ i. payload_bit m (masked w) (8 * j + i)) (range_with_len (k + 1) (8 - (k + 1)))) in
    let split = ap (λ l. value (map (λ i. payload_bit m (masked w) (8 * j + i)) (range_with_len k l))) n ∙ ap (λ x. x + 2 * rest) (sym e) in
    gather_more k o b rest whole h low (omega (arith, e, bit_below m w (8 * j + k))) (sym (ap (λ v. o + 2 ^ k * v) split) ∙ all)

-- ---- a word

pub word_starts : (m : Mode) (w : List ℕ) (first n : ℕ) → n ≤ 240 → take n (replicate 240 0) ≡ payload_octets m w first 0 ++ replicate (n - 0) 0
unfolding payload_octets
word_starts m w first n h = take-replicate n 240 0 h ∙ ap (λ i. replicate i 0) (let e : n ≡ n - 0 = omega arith in e)

pub word_more : (m : Mode) (w out : List ℕ) (first n j : ℕ) → j < n → out ≡ payload_octets m w first j ++ replicate (n - j) 0
    → set out j (payload_octet m w (first + j)) ≡ payload_octets m w first (j + 1) ++ replicate (n - (j + 1)) 0
unfolding payload_octets
word_more m w out first n j h e =
    let more : n - j ≡ suc (n - (j + 1)) = omega arith in
    let zeros = replicate (n - (j + 1)) 0 in
    let done = payload_octets m w first j in
    let o = payload_octet m w (first + j) in
    ap (λ l. set l j o) (e ∙ ap (λ l. done ++ replicate l 0) more) ∙ set_at done 0 zeros o j (length-map-range_with_len (payload_octet m w) first j)
    ∙ sym (append_assoc done (o ∷ []) zeros)
    ∙ sym (ap (λ l. l ++ zeros) (map-range_with_len_more (payload_octet m w) first j (first + j) refl))

pub word_done : (m : Mode) (w items : List ℕ) (L k n j : ℕ) → n ≡ word_length L k → j ≡ n → items ≡ payload_octets m w (240 * k) j ++ replicate (n - j) 0
    → items ++ drop n (replicate 240 0) ≡ word_read m L w k ++ replicate (240 - word_length L k) 0
unfolding word_read
word_done m w items L k n j en ej e =
    let none : n - n ≡ 0 = omega arith in
    let whole = e ∙ ap (λ i. payload_octets m w (240 * k) i ++ replicate (n - i) 0) ej ∙ ap (λ i. payload_octets m w (240 * k) n ++ replicate i 0) none ∙ append-nil (payload_octets m w (240 * k) n) in
    ap₂ (λ a b. a ++ b) whole (drop-replicate n 240 0) ∙ ap (λ i. payload_octets m w (240 * k) i ++ replicate (240 - i) 0) en
