-- The payload of a frame, and what is read of its chips: each bit, each octet and each body word.
use Rattle.std.proofs.Common.{◌≡◌, ℕ, zero, suc, ◌+◌, ◌-◌, ◌*◌, ◌/◌, ◌%◌, ◌<◌, ◌≤◌, min, leb, List, [], ◌∷◌, ◌++◌, map, length, get_or, take, drop, replicate, sym, refl, ap, ◌∙◌, subst, ap₂, suc-add, mul-le-mul_left, mul-zero, zero-add, mul-suc, arith}
use Rattle.std.specs.List.{AllByRecursion as Each, range_with_len}
use Rattle.std.proofs.lemmas.List.{append_assoc, length-append, length-drop, length-take, take_at, drop_at, drop-drop, drop_all, take-append-drop, ext_get_or, get_or-take, get_or-drop, get_or_append_left, get_or-append-add, get_or-replicate, length-replicate}
use Rattle.std.proofs.lemmas.List.FromFn.{length-map-range_with_len, get_or-map-range_with_len, fill_by_all}
use Rattle.std.proofs.ByRecursion.{All-append, All-take, All-drop, All-get_or}
use Rattle.std.proofs.lemmas.Bool.{le-leb, cond-true}
use Rattle.elements.specs.Octets.{Octet}
use Rattle.coding.specs.Codewords.{parity, Codeword}
use Rattle.coding.proofs.ParityFacts.{length_parity, parity_octets}
use Rattle.format.specs.declared.mode.Mode.{Mode}
use Rattle.format.specs.declared.mode.Mode.TheVariants.{M1, M2, M3, M4, M5, M6, M7}
use Rattle.format.specs.Modes.{row}
use Rattle.format.specs.Sequences.{value, after, mixed, scrambler}
use Rattle.format.specs.Bits.{bits, line}
use Rattle.format.specs.Payload.{word_count, coded_octets, block_count, coded, body_octets, repeated, pilots, blocks, payload_bits}
use Rattle.format.specs.Frame.{Frame, preamble, header_chips, phy_of, frame_chips, payload_place}
use Rattle.format.specs.Header.{header_word}
use Rattle.format.specs.Reading.{block_place, block_chips, payload_bit, payload_octet, payload_octets, word_length, word_read, messages, body_read}
use Rattle.format.specs.Fits.{own_word}
use Rattle.format.proofs.Lengths.{length_mixed, length_bits, length_line, length_body_octets, blocks_hold, length_pilots, block_long, length_preamble, length_header_word, length_header_chips, length_payload_bits, length_frame_chips}
use Rattle.format.proofs.LineBits.{value_bits, get_or_line}
use Rattle.format.proofs.Scrambling.{mixed_octets, mixed_twice}
use Rattle.format.proofs.HeaderBack.{payload_of, frame_parts, message_codeword}

-- ---- blocks

-- one block, its pilots and the blocks behind it
module _ (n k : ℕ) (bs rest : List ℕ) (enough : 508 ≤ length bs) where
  block_parts : blocks n (suc k) bs ++ rest ≡ repeated n (take 508 bs) ++ (pilots n ++ (blocks n k (drop 508 bs) ++ rest))
  unfolding blocks
  block_parts =
      append_assoc (repeated n (take 508 bs)) (pilots n ++ blocks n k (drop 508 bs)) rest
      ∙ ap (λ l. repeated n (take 508 bs) ++ l) (append_assoc (pilots n) (blocks n k (drop 508 bs)) rest)

  pub first_block : take (508 * n) (blocks n (suc k) bs ++ rest) ≡ repeated n (take 508 bs)
  first_block = ap (take (508 * n)) block_parts ∙ take_at (repeated n (take 508 bs)) (pilots n ++ (blocks n k (drop 508 bs) ++ rest)) (508 * n) (block_long n bs enough)

  pub next_blocks : drop (512 * n) (blocks n (suc k) bs ++ rest) ≡ blocks n k (drop 508 bs) ++ rest
  next_blocks =
      let b = repeated n (take 508 bs) in
      let tail = blocks n k (drop 508 bs) ++ rest in
      ap (drop (512 * n)) (block_parts ∙ sym (append_assoc b (pilots n) tail))
      ∙ drop_at (b ++ pilots n) tail (512 * n) (omega (arith, length-append b (pilots n), block_long n bs enough, length_pilots n))

pub blocks_from : (n b k : ℕ) (bs rest : List ℕ) → 508 * (b + k) ≤ length bs
    → drop (512 * n * b) (blocks n (b + k) bs ++ rest) ≡ blocks n k (drop (508 * b) bs) ++ rest
blocks_from n zero k bs rest h = ap₂ (λ i j. drop i (blocks n j bs ++ rest)) (mul-zero (512 * n)) (zero-add k)
blocks_from n (suc b) k bs rest h =
    ap₂ (λ i j. drop i (blocks n j bs ++ rest)) (let e : 512 * n * suc b ≡ 512 * n + 512 * n * b = omega (arith, mul-suc (512 * n) b) in e) (suc-add b k)
    ∙ sym (drop-drop (512 * n * b) (512 * n) (blocks n (suc (b + k)) bs ++ rest))
    ∙ ap (drop (512 * n * b)) (next_blocks n (b + k) bs rest (omega arith))
    ∙ blocks_from n b k (drop 508 bs) rest (rw (length-drop 508 bs) (omega arith))
    ∙ ap (λ l. blocks n k l ++ rest) (drop-drop (508 * b) 508 bs ∙ ap (λ i. drop i bs) (let e : 508 + 508 * b ≡ 508 * suc b = omega arith in e))

-- block b of k
pub block_at : (n b k : ℕ) (bs rest : List ℕ) → b < k → 508 * k ≤ length bs
    → take (508 * n) (drop (512 * n * b) (blocks n k bs ++ rest)) ≡ repeated n (take 508 (drop (508 * b) bs))
block_at n b k bs rest below h =
    let j = k - suc b in
    let e : k ≡ b + suc j = omega arith in
    ap (λ i. take (508 * n) (drop (512 * n * b) (blocks n i bs ++ rest))) e
    ∙ ap (take (508 * n)) (blocks_from n b (suc j) bs rest (omega arith))
    ∙ first_block n j (drop (508 * b) bs) rest (rw (length-drop (508 * b) bs) (omega arith))

pub get_or_repeated : (n : ℕ) (bs : List ℕ) (i : ℕ) → 1 ≤ n → i < length bs → get_or (repeated n bs) (n * i) 0 ≡ get_or bs i 0
unfolding repeated
get_or_repeated n [] i h l = absurd (omega arith)
get_or_repeated n (b ∷ bs) zero h l =
    ap (λ j. get_or (replicate n b ++ repeated n bs) j 0) (mul-zero n)
    ∙ get_or_append_left (replicate n b) (repeated n bs) 0 0 (rw (length-replicate n b) h) ∙ get_or-replicate n 0 b 0 h
get_or_repeated n (b ∷ bs) (suc i) h l =
    ap (λ j. get_or (replicate n b ++ repeated n bs) j 0) (let e : n * suc i ≡ length (replicate n b) + n * i = omega (arith, mul-suc n i, length-replicate n b) in e)
    ∙ get_or-append-add (replicate n b) (repeated n bs) (n * i) 0 ∙ get_or_repeated n bs i h (omega arith)

-- ---- the payload's chips in a frame

pub some_spread : (m : Mode) → 1 ≤ (row m).spread
some_spread M1 = omega arith
some_spread M2 = omega arith
some_spread M3 = omega arith
some_spread M4 = omega arith
some_spread M5 = omega arith
some_spread M6 = omega arith
some_spread M7 = omega arith

module _ (f : Frame) (rest : List ℕ) (ten : length f.mac ≡ 10) where
  abbrev spread : ℕ
  spread = (row f.mode).spread

  abbrev count : ℕ
  count = block_count (length f.body)

  abbrev window : List ℕ
  window = frame_chips f ++ rest

  abbrev payload : List ℕ
  payload = payload_bits f.seed f.body

  pub payload_from : drop (payload_place (row f.mode).channels) (frame_chips f ++ rest) ≡ payload_of f ++ rest
  payload_from =
      let p = preamble f.mode in
      let h = header_chips (header_word (phy_of f) f.mac) in
      let long = length_header_chips (header_word (phy_of f) f.mac) (length_header_word (phy_of f) f.mac ten) in
      ap (drop (payload_place (row f.mode).channels)) (frame_parts f rest ∙ sym (append_assoc p h (payload_of f ++ rest)))
      ∙ drop_at (p ++ h) (payload_of f ++ rest) _ (omega (arith, length-append p h, length_preamble f.mode))

  block_inside : (b : ℕ) → b < count → block_place f.mode (b + 1) ≤ length window
  block_inside b h =
      omega (arith, length-append (frame_chips f) rest, length_frame_chips f ten, mul-le-mul_left {m = b + 1} {n = count} (512 * spread) (omega arith))

  pub block_back : (b : ℕ) → b < block_count (length f.body)
      → block_chips f.mode b (frame_chips f ++ rest) ≡ repeated (row f.mode).spread (take 508 (drop (508 * b) (payload_bits f.seed f.body)))
  unfolding block_chips
  block_back b h =
      cond-true (leb (block_place f.mode (b + 1)) (length window)) _ [] (le-leb _ (length window) (block_inside b h))
      ∙ ap (take (508 * spread)) (sym (drop-drop (512 * spread * b) (payload_place (row f.mode).channels) window) ∙ ap (drop (512 * spread * b)) payload_from)
      ∙ block_at spread b count payload rest h (omega (arith, length_payload_bits f.seed f.body))

  pub bit_back : (k : ℕ) → k < 508 * block_count (length f.body) → payload_bit f.mode (frame_chips f ++ rest) k ≡ get_or (payload_bits f.seed f.body) k 0
  unfolding payload_bit
  bit_back k h =
      let b = k / 508 in
      let i = k % 508 in
      let bs = drop (508 * b) payload in
      let inside : i < length (take 508 bs) = omega (arith, length-take 508 bs, length-drop (508 * b) payload, length_payload_bits f.seed f.body) in
      ap (λ l. get_or l (spread * i) 0) (block_back b (omega arith))
      ∙ get_or_repeated spread (take 508 bs) i (some_spread f.mode) inside
      ∙ get_or-take 508 bs i 0 (omega arith) ∙ get_or-drop (508 * b) payload i 0 ∙ ap (λ j. get_or payload j 0) (let e : 508 * b + i ≡ k = omega arith in e)

-- ---- octets

pub coded_octets_all : (k : ℕ) (os : List ℕ) → Each Octet os → Each Octet (coded k os)
unfolding coded
coded_octets_all zero os h = tt
coded_octets_all (suc k) os h =
    let m = take 224 os in
    let hm = All-take Octet 224 os h in
    All-append Octet (m ++ parity m) (coded k (drop 224 os)) (All-append Octet m (parity m) hm (parity_octets m hm)) (coded_octets_all k (drop 224 os) (All-drop Octet 224 os h))

pub body_octets_all : (seed : ℕ) (body : List ℕ) → Each Octet body → Each Octet (body_octets seed body)
unfolding body_octets
body_octets_all seed body h =
    coded_octets_all (word_count (length body)) (mixed (after 96 (scrambler seed)) body) (mixed_octets (after 96 (scrambler seed)) body h)

-- bit i of octet j of the payload
pub payload_line : (seed : ℕ) (body : List ℕ) (j i : ℕ) → j < coded_octets (length body) → i < 8
    → get_or (payload_bits seed body) (8 * j + i) 0 ≡ get_or (bits 8 (get_or (body_octets seed body) j 0)) i 0
unfolding payload_bits
payload_line seed body j i hj hi =
    let os = body_octets seed body in
    let long = length_body_octets seed body in
    get_or_append_left (line os) _ 0 (8 * j + i) (omega (arith, length_line os)) ∙ get_or_line os j i (omega arith) hi

module _ (f : Frame) (rest : List ℕ) (ten : length f.mac ≡ 10) (ok : Each Octet f.body) where
  pub octet_back : (j : ℕ) → j < coded_octets (length f.body) → payload_octet f.mode (frame_chips f ++ rest) j ≡ get_or (body_octets f.seed f.body) j 0
  unfolding payload_octet
  octet_back j h =
      let L = length f.body in
      let os = body_octets f.seed f.body in
      let o = get_or os j 0 in
      let bit : ℕ → ℕ = λ i. payload_bit f.mode (frame_chips f ++ rest) (8 * j + i) in
      let at : (i : ℕ) → i < 8 → get_or (bits 8 o) i 0 ≡ bit i =
      λ i hi. sym (bit_back f rest ten (8 * j + i) (omega (arith, blocks_hold L)) ∙ payload_line f.seed f.body j i h hi) in
      ap value (sym (fill_by_all bit (bits 8 o) 8 0 (length_bits 8 o) at))
      ∙ value_bits 8 o (All-get_or Octet os j 0 (omega (arith, length_body_octets f.seed f.body)) (body_octets_all f.seed f.body ok))

  pub octets_back : (first n : ℕ) → first + n ≤ coded_octets (length f.body)
      → payload_octets f.mode (frame_chips f ++ rest) first n ≡ take n (drop first (body_octets f.seed f.body))
  unfolding payload_octets
  octets_back first n h =
      let os = body_octets f.seed f.body in
      let octet = payload_octet f.mode (frame_chips f ++ rest) in
      let long : length (take n (drop first os)) ≡ n = omega (arith, length-take n (drop first os), length-drop first os, length_body_octets f.seed f.body) in
      ext_get_or 0 (map octet (range_with_len first n)) (take n (drop first os)) (length-map-range_with_len octet first n ∙ sym long)
      (λ i l. let below : i < n = omega (arith, length-map-range_with_len octet first n) in
      get_or-map-range_with_len octet first n i (first + i) 0 below refl ∙ octet_back (first + i) (omega arith)
      ∙ sym (get_or-take n (drop first os) i 0 below ∙ get_or-drop first os i 0))

  pub word_back : (k : ℕ) → k < word_count (length f.body) → word_read f.mode (length f.body) (frame_chips f ++ rest) k ≡ own_word f k
  unfolding word_read own_word
  word_back k h = octets_back (240 * k) (word_length (length f.body) k) (omega arith)

-- ---- body words

-- a message with its parity
abbrev pub whole : List ℕ → List ℕ
whole m = m ++ parity m

pub length_whole : (m : List ℕ) → length (whole m) ≡ length m + 16
length_whole m = length-append m (parity m) ∙ ap (λ n. length m + n) (length_parity m)

-- one word and the words behind it
coded_parts : (n : ℕ) (os : List ℕ) → coded (suc n) os ≡ whole (take 224 os) ++ coded n (drop 224 os)
unfolding coded
coded_parts n os = refl

pub words_from : (b k : ℕ) (os : List ℕ) → 224 * b ≤ length os → drop (240 * b) (coded (b + k) os) ≡ coded k (drop (224 * b) os)
words_from zero k os h = ap (λ j. coded j os) (zero-add k)
words_from (suc b) k os h =
    let long : length (whole (take 224 os)) ≡ 240 = omega (arith, length_whole (take 224 os), length-take 224 os) in
    ap₂ (λ i l. drop i l) (let e : 240 * suc b ≡ 240 + 240 * b = omega arith in e) (ap (λ j. coded j os) (suc-add b k) ∙ coded_parts (b + k) os)
    ∙ sym (drop-drop (240 * b) 240 (whole (take 224 os) ++ coded (b + k) (drop 224 os)))
    ∙ ap (drop (240 * b)) (drop_at (whole (take 224 os)) (coded (b + k) (drop 224 os)) 240 long)
    ∙ words_from b k (drop 224 os) (rw (length-drop 224 os) (omega arith))
    ∙ ap (coded k) (drop-drop (224 * b) 224 os ∙ ap (λ i. drop i os) (let e : 224 + 224 * b ≡ 224 * suc b = omega arith in e))

-- word k of n: a message of the body and its parity
pub word_at : (n k : ℕ) (os : List ℕ) → k < n → 224 * k ≤ length os
    → take (word_length (length os) k) (drop (240 * k) (coded n os)) ≡ whole (take 224 (drop (224 * k) os))
word_at n k os below h =
    let j = n - suc k in
    let rest = drop (224 * k) os in
    ap (take (word_length (length os) k))
    (ap (λ i. drop (240 * k) (coded i os)) (let e : n ≡ k + suc j = omega arith in e) ∙ words_from k (suc j) os h ∙ coded_parts j rest)
    ∙ take_at (whole (take 224 rest)) (coded j (drop 224 rest)) (word_length (length os) k)
    (omega (arith, length_whole (take 224 rest), length-take 224 rest, length-drop (224 * k) os))

-- the scrambled body of a frame, and message k of it
abbrev pub scrambled : Frame → List ℕ
scrambled f = mixed (after 96 (scrambler f.seed)) f.body

abbrev pub message_of : Frame → ℕ → List ℕ
message_of f k = take 224 (drop (224 * k) (scrambled f))

module _ (f : Frame) where
  length_scrambled : length (scrambled f) ≡ length f.body
  length_scrambled = length_mixed (after 96 (scrambler f.seed)) f.body

  pub own_word_is : (k : ℕ) → k < word_count (length f.body) → own_word f k ≡ whole (message_of f k)
  unfolding own_word body_octets
  own_word_is k h =
      ap (λ n. take (word_length n k) (drop (240 * k) (coded (word_count (length f.body)) (scrambled f)))) (sym length_scrambled)
      ∙ word_at (word_count (length f.body)) k (scrambled f) h (omega (arith, length_scrambled))

  pub length_message_of : (k : ℕ) → length (message_of f k) ≡ min 224 (length f.body - 224 * k)
  length_message_of k = length-take 224 (drop (224 * k) (scrambled f)) ∙ ap (min 224) (length-drop (224 * k) (scrambled f) ∙ ap (λ n. n - 224 * k) length_scrambled)

  pub length_own_word : (k : ℕ) → k < word_count (length f.body) → length (own_word f k) ≡ word_length (length f.body) k
  length_own_word k h = ap length (own_word_is k h) ∙ length_whole (message_of f k) ∙ ap (λ n. n + 16) (length_message_of k)

  pub word_codeword : Each Octet f.body → (k : ℕ) → k < word_count (length f.body) → Codeword (own_word f k)
  word_codeword ok k h =
      let long = length_message_of k in
      subst Codeword (sym (own_word_is k h))
      (message_codeword (message_of f k)
      (All-take Octet 224 _ (All-drop Octet (224 * k) (scrambled f) (mixed_octets (after 96 (scrambler f.seed)) f.body ok))) (omega arith) (omega arith))

  -- ---- the body from its words

  messages_back : (n k : ℕ) → k + n ≡ word_count (length f.body) → messages n k (own_word f) ≡ drop (224 * k) (scrambled f)
  unfolding messages
  messages_back zero k e = sym (drop_all (224 * k) (scrambled f) (omega (arith, length_scrambled)))
  messages_back (suc n) k e =
      let h : k < word_count (length f.body) = omega arith in
      let rest = drop (224 * k) (scrambled f) in
      ap₂ ◌++◌
      (ap (λ w. take (length w - 16) w) (own_word_is k h) ∙ take_at (message_of f k) (parity (message_of f k)) _ (omega (arith, length_whole (message_of f k))))
      (messages_back n (suc k) (omega arith)
      ∙ ap (λ i. drop i (scrambled f)) (let e : 224 * suc k ≡ 224 * k + 224 = omega arith in e) ∙ sym (drop-drop 224 (224 * k) (scrambled f)))
      ∙ take-append-drop 224 rest

  pub body_back : body_read f.seed (word_count (length f.body)) (own_word f) ≡ f.body
  unfolding body_read
  body_back =
      ap (mixed (after 96 (scrambler f.seed))) (messages_back (word_count (length f.body)) 0 (zero-add _)) ∙ mixed_twice (after 96 (scrambler f.seed)) f.body
