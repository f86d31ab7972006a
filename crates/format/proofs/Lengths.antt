-- How long each part of a frame is.
use Rattle.std.proofs.Common.{◌≡◌, ℕ, zero, suc, ◌+◌, ◌-◌, ◌*◌, ◌/◌, ◌≤◌, Bool, true, false, List, [], ◌∷◌, ◌++◌, length, take, drop, replicate, sym, refl, ap, ◌∙◌, suc-mul, mul-zero, zero-mul, mul-suc, arith}
use Rattle.std.proofs.lemmas.List.{length-append, length-take, length-take-le, length-drop, length-map, length-replicate}
use Rattle.coding.specs.Codewords.{parity}
use Rattle.coding.proofs.ParityFacts.{length_parity}
use Rattle.format.specs.declared.mode.Mode.{Mode}
use Rattle.format.specs.declared.mode.Mode.TheVariants.{M1, M2, M3, M4, M5, M6, M7}
use Rattle.format.specs.declared.phy.Phy.{Phy}
use Rattle.format.specs.Sequences.{after, advanced, drawn, mixed, scrambler, spreader}
use Rattle.format.specs.Bits.{bits, line, octets_of}
use Rattle.format.specs.Codes.{high_first, code_a, code_b, inverted}
use Rattle.format.specs.Modes.{row}
use Rattle.format.specs.Header.{low_first, phy_octets, hcs, header_message, header_word}
use Rattle.format.specs.Payload.{word_count, coded_octets, block_count, stuff_count, coded, body_octets, payload_bits, repeated, pilots, blocks}
use Rattle.format.specs.Frame.{Frame, copies, signed, all_signed, group, preamble, added, header_chips, phy_of, frame_chips, frame_length}

-- ---- sequences and bits

pub length_drawn : (n r : ℕ) → length (drawn n r) ≡ n
unfolding drawn
length_drawn zero r = refl
length_drawn (suc n) r = ap suc (length_drawn n (advanced r))

pub length_mixed : (r : ℕ) (os : List ℕ) → length (mixed r os) ≡ length os
unfolding mixed
length_mixed r [] = refl
length_mixed r (o ∷ os) = ap suc (length_mixed (after 8 r) os)

pub length_bits : (n o : ℕ) → length (bits n o) ≡ n
unfolding bits
length_bits zero o = refl
length_bits (suc n) o = ap suc (length_bits n (o / 2))

pub length_line : (os : List ℕ) → length (line os) ≡ 8 * length os
unfolding line
length_line [] = refl
length_line (o ∷ os) = omega (arith, length-append (bits 8 o) (line os), length_bits 8 o, length_line os)

pub length_octets_of : (n : ℕ) (bs : List ℕ) → length (octets_of n bs) ≡ n
unfolding octets_of
length_octets_of zero bs = refl
length_octets_of (suc n) bs = ap suc (length_octets_of n (drop 8 bs))

pub length_low_first : (n v : ℕ) → length (low_first n v) ≡ n
unfolding low_first
length_low_first zero v = refl
length_low_first (suc n) v = ap suc (length_low_first n (v / 256))

-- ---- codes

pub length_high_first : (n v : ℕ) → length (high_first n v) ≡ n
unfolding high_first
length_high_first zero v = refl
length_high_first (suc n) v = ap suc (length_high_first n v)

pub length_code_a : length code_a ≡ 128
unfolding code_a high_first
length_code_a = refl

pub length_code_b : length code_b ≡ 128
unfolding code_b high_first
length_code_b = refl

pub length_inverted : (chips : List ℕ) → length (inverted chips) ≡ length chips
unfolding inverted
length_inverted chips = length-map chips (λ c. 1 - c)

pub length_signed : (minus : Bool) → length (signed minus) ≡ 128
length_signed true = length_inverted code_a ∙ length_code_a
length_signed false = length_code_a

pub length_all_signed : (minus : List Bool) → length (all_signed minus) ≡ 128 * length minus
unfolding all_signed
length_all_signed [] = refl
length_all_signed (t ∷ ts) = omega (arith, length-append (signed t) (all_signed ts), length_signed t, length_all_signed ts)

-- the signs of SFD2 to SFD4
pub three_signs : (m : Mode) → length (row m).minus ≡ 3
three_signs M1 = refl
three_signs M2 = refl
three_signs M3 = refl
three_signs M4 = refl
three_signs M5 = refl
three_signs M6 = refl
three_signs M7 = refl

pub length_group : (m : Mode) → length (group m) ≡ 512
unfolding group
length_group m = omega (arith, length_all_signed (true ∷ (row m).minus), three_signs m)

pub length_copies : (n : ℕ) (chips : List ℕ) → length (copies n chips) ≡ n * length chips
unfolding copies
length_copies zero chips = sym (zero-mul (length chips))
length_copies (suc n) chips = omega (arith, length-append chips (copies n chips), length_copies n chips, suc-mul n (length chips))

pub length_preamble : (m : Mode) → length (preamble m) ≡ 2560 * (row m).channels
unfolding preamble
length_preamble m =
    let n = (row m).channels in
    let sync : length (copies (16 * n) code_a) ≡ 16 * n * 128 = length_copies (16 * n) code_a ∙ ap (λ k. 16 * n * k) length_code_a in
    let groups : length (copies n (group m)) ≡ n * 512 = length_copies n (group m) ∙ ap (λ k. n * k) (length_group m) in
    omega (arith, length-append (copies (16 * n) code_a) (copies n (group m)))

-- ---- the header

pub length_added : (xs ys : List ℕ) → length xs ≤ length ys → length (added xs ys) ≡ length xs
unfolding added
length_added [] ys h = refl
length_added (x ∷ xs) [] h = absurd (omega arith)
length_added (x ∷ xs) (y ∷ ys) h = ap suc (length_added xs ys (omega arith))

pub length_repeated : (n : ℕ) (bs : List ℕ) → length (repeated n bs) ≡ n * length bs
unfolding repeated
length_repeated n [] = sym (mul-zero n)
length_repeated n (b ∷ bs) = omega (arith, length-append (replicate n b) (repeated n bs), length-replicate n b, length_repeated n bs, mul-suc n (length bs))

pub length_phy_octets : (h : Phy) → length (phy_octets h) ≡ 4
unfolding phy_octets
length_phy_octets h = length_low_first 4 _

pub length_hcs : (os : List ℕ) → length (hcs os) ≡ 2
unfolding hcs
length_hcs os = length_octets_of 2 _

pub length_header_message : (seed : ℕ) (phy mac : List ℕ) → length phy ≡ 4 → length mac ≡ 10 → length (header_message seed phy mac) ≡ 16
unfolding header_message
length_header_message seed phy mac p q =
    let rest = mac ++ hcs (phy ++ mac) in
    omega (arith, length-append phy (mixed (scrambler seed) rest), length_mixed (scrambler seed) rest, length-append mac (hcs (phy ++ mac)), length_hcs (phy ++ mac))

pub length_header_word : (h : Phy) (mac : List ℕ) → length mac ≡ 10 → length (header_word h mac) ≡ 32
unfolding header_word
length_header_word h mac e =
    let m = header_message h.seed (phy_octets h) mac in
    omega (arith, length-append m (parity m), length_header_message h.seed (phy_octets h) mac (length_phy_octets h) e, length_parity m)

pub length_header_chips : (word : List ℕ) → length word ≡ 32 → length (header_chips word) ≡ 4096
unfolding header_chips
length_header_chips word e =
    let long : length (repeated 16 (line word)) ≡ 4096 = omega (arith, length_repeated 16 (line word), length_line word) in
    length_added (repeated 16 (line word)) (drawn 4096 spreader) (omega (arith, length_drawn 4096 spreader)) ∙ long

-- ---- the payload

pub length_pilots : (n : ℕ) → length (pilots n) ≡ 4 * n
unfolding pilots
length_pilots n = omega (arith, length_repeated n (1 ∷ 0 ∷ 1 ∷ 0 ∷ []))

-- the chips of one block
pub block_long : (n : ℕ) (bs : List ℕ) → 508 ≤ length bs → length (repeated n (take 508 bs)) ≡ 508 * n
block_long n bs h = length_repeated n (take 508 bs) ∙ ap (λ k. n * k) (length-take-le 508 bs h) ∙ omega arith

pub length_blocks : (n k : ℕ) (bs : List ℕ) → 508 * k ≤ length bs → length (blocks n k bs) ≡ 512 * n * k
unfolding blocks
length_blocks n zero bs h = omega arith
length_blocks n (suc k) bs h =
    let rest = drop 508 bs in
    omega (
      arith,
      length-append (repeated n (take 508 bs)) (pilots n ++ blocks n k rest),
      length-append (pilots n) (blocks n k rest),
      block_long n bs (omega arith),
      length_pilots n,
      length_blocks n k rest (rw (length-drop 508 bs) (omega arith)),
      mul-suc (512 * n) k,
    )

pub length_coded : (k : ℕ) (os : List ℕ) → length os ≤ 224 * k → length (coded k os) ≡ length os + 16 * k
unfolding coded
length_coded zero os h = omega arith
length_coded (suc k) os h =
    let m = take 224 os in
    omega (
      arith,
      length-append (m ++ parity m) (coded k (drop 224 os)),
      length-append m (parity m),
      length_parity m,
      length-take 224 os,
      length-drop 224 os,
      length_coded k (drop 224 os) (rw (length-drop 224 os) (omega arith)),
    )

-- the words hold the body, and the blocks hold the words
pub words_hold : (L : ℕ) → L ≤ 224 * word_count L
words_hold L = omega arith

pub words_full : (L : ℕ) → 224 * word_count L ≤ L + 223
words_full L = omega arith

pub blocks_hold : (L : ℕ) → 8 * coded_octets L ≤ 508 * block_count L
blocks_hold L = omega arith

pub length_body_octets : (seed : ℕ) (body : List ℕ) → length (body_octets seed body) ≡ coded_octets (length body)
unfolding body_octets
length_body_octets seed body =
    let e = length_mixed (after 96 (scrambler seed)) body in
    length_coded (word_count (length body)) (mixed (after 96 (scrambler seed)) body) (rw e (words_hold (length body))) ∙ ap (λ n. n + 16 * word_count (length body)) e

pub length_payload_bits : (seed : ℕ) (body : List ℕ) → length (payload_bits seed body) ≡ 508 * block_count (length body)
unfolding payload_bits
length_payload_bits seed body =
    let L = length body in
    let bs = line (body_octets seed body) in
    let stuff = drawn (stuff_count L) (after (96 + 8 * L) (scrambler seed)) in
    omega (
      arith,
      length-append bs stuff,
      length_line (body_octets seed body),
      length_body_octets seed body,
      length_drawn (stuff_count L) (after (96 + 8 * L) (scrambler seed)),
      blocks_hold L,
    )

-- ---- the frame

pub length_payload_chips : (n seed : ℕ) (body : List ℕ)
    → length (blocks n (block_count (length body)) (payload_bits seed body)) ≡ 512 * n * block_count (length body)
length_payload_chips n seed body = length_blocks n (block_count (length body)) (payload_bits seed body) (omega (arith, length_payload_bits seed body))

pub length_frame_chips : (f : Frame) → length f.mac ≡ 10 → length (frame_chips f) ≡ frame_length f.mode (length f.body)
unfolding frame_chips
length_frame_chips f e =
    let m = f.mode in
    let header = header_chips (header_word (phy_of f) f.mac) in
    let payload = blocks (row m).spread (block_count (length f.body)) (payload_bits f.seed f.body) in
    omega (
      arith,
      length-append (preamble m) (header ++ payload),
      length-append header payload,
      length_preamble m,
      length_header_chips (header_word (phy_of f) f.mac) (length_header_word (phy_of f) f.mac e),
      length_payload_chips (row m).spread f.seed f.body,
    )
