-- A header word, and what is read of its chips.
use Rattle.std.proofs.Common.{◌≡◌, ℕ, zero, suc, ◌+◌, ◌-◌, ◌*◌, ◌^◌, ◌<◌, ◌≤◌, Bool, true, cond, not, leb, List, [], ◌∷◌, ◌++◌, map, length, take, drop, replicate, sym, refl, ap, ◌∙◌, ap₂, suc-mul, zero-mul, arith}
use Rattle.std.specs.List.{AllByRecursion as Each}
use Rattle.std.proofs.lemmas.List.{append_assoc, append-nil, length-append, take_at, drop_at}
use Rattle.std.proofs.ByRecursion.{All-append, All-map}
use Rattle.elements.specs.Octets.{Octet}
use Rattle.elements.specs.Bits.{bits as bit_ops}
use Rattle.polynomials.specs.Checks.{check}
use Rattle.coding.specs.Codewords.{parity, Codeword}
use Rattle.coding.proofs.ParityFacts.{length_parity, parity_octets}
use Rattle.format.specs.declared.phy.Phy.{Phy}
use Rattle.format.specs.Sequences.{drawn, mixed, scrambler, spreader}
use Rattle.format.specs.Bits.{line, octets_of, flag, bit_of}
use Rattle.format.specs.Modes.{row}
use Rattle.format.specs.Header.{unpacked, joined, phy_octets, hcs_generator, hcs, header_message, header_word}
use Rattle.format.specs.Payload.{repeated, block_count, payload_bits, blocks}
use Rattle.format.specs.Frame.{Frame, preamble, added, header_chips, phy_of, frame_chips}
use Rattle.format.specs.Reading.{ones, majorities, header_part, despread, header_read, phy_read, plain_read, mac_read, hcs_read}
use Rattle.format.proofs.Lengths.{length_drawn, length_mixed, length_line, length_repeated, length_hcs, length_phy_octets, length_preamble, length_header_word, length_header_chips}
use Rattle.format.proofs.LineBits.{Bit, line_bits, octets_of_line, octets_of_octets}
use Rattle.format.proofs.Scrambling.{xor_twice, mixed_octets, mixed_twice}
use Rattle.format.proofs.PhyFields.{bit_of_below, unpacked_packed, phy_octets_octets, joined_phy_octets}

-- ---- chips and majorities

pub added_twice : (xs ys : List ℕ) → length xs ≤ length ys → added (added xs ys) ys ≡ xs
unfolding added
added_twice [] ys h = refl
added_twice (x ∷ xs) [] h = absurd (omega arith)
added_twice (x ∷ xs) (y ∷ ys) h = ap₂ (λ a l. a ∷ l) (xor_twice x y) (added_twice xs ys (omega arith))

pub ones_replicate : (n b : ℕ) → ones (replicate n b) ≡ n * b
unfolding ones
ones_replicate zero b = sym (zero-mul b)
ones_replicate (suc n) b = omega (arith, ones_replicate n b, suc-mul n b)

most : (b : ℕ) → Bit b → cond (leb 9 (16 * b)) 1 0 ≡ b
most zero h = refl
most (suc zero) h = refl
most (suc (suc b)) h = absurd (omega arith)

pub majorities_repeated : (bs : List ℕ) → Each Bit bs → majorities (length bs) (repeated 16 bs) ≡ bs
unfolding majorities repeated
majorities_repeated [] h = refl
majorities_repeated (b ∷ bs) h =
    ap₂ (λ x xs. x ∷ xs) (ap (λ n. cond (leb 9 n) 1 0) (ones_replicate 16 b) ∙ most b h.0) (majorities_repeated bs h.1)

pub despread_chips : (word : List ℕ) → length word ≡ 32 → Each Octet word → despread (header_chips word) ≡ word
unfolding despread header_chips
despread_chips word e h =
    let bs = line word in
    let long : length bs ≡ 256 = omega (arith, length_line word) in
    ap (λ l. octets_of 32 (majorities 256 l))
    (added_twice (repeated 16 bs) (drawn 4096 spreader) (omega (arith, length_repeated 16 bs, length_drawn 4096 spreader)))
    ∙ ap (octets_of 32) (ap (λ n. majorities n (repeated 16 bs)) (sym long) ∙ majorities_repeated bs (line_bits word) ∙ sym (append-nil bs))
    ∙ ap (λ n. octets_of n (bs ++ [])) (sym e) ∙ octets_of_line word [] h

-- ---- the header's place in a frame

abbrev pub payload_of : Frame → List ℕ
payload_of f = blocks (row f.mode).spread (block_count (length f.body)) (payload_bits f.seed f.body)

pub frame_parts : (f : Frame) (rest : List ℕ)
    → frame_chips f ++ rest ≡ preamble f.mode ++ (header_chips (header_word (phy_of f) f.mac) ++ (payload_of f ++ rest))
unfolding frame_chips
frame_parts f rest =
    let p = preamble f.mode in
    let h = header_chips (header_word (phy_of f) f.mac) in
    append_assoc p (h ++ payload_of f) rest ∙ ap (λ l. p ++ l) (append_assoc h (payload_of f) rest)

-- ---- the word

pub message_codeword : (m : List ℕ) → Each Octet m → 1 ≤ length m → length m ≤ 224 → Codeword (m ++ parity m)
message_codeword m h low high =
    let e : length (m ++ parity m) ≡ length m + 16 = length-append m (parity m) ∙ ap (λ n. length m + n) (length_parity m) in
    let n : length m ≡ length (m ++ parity m) - 16 = omega arith in
    record {
      octets_all = All-append Octet m (parity m) h (parity_octets m h);
      long = omega arith;
      short = omega arith;
      ends = drop_at m (parity m) (length (m ++ parity m) - 16) n ∙ ap parity (sym (take_at m (parity m) (length (m ++ parity m) - 16) n));
    }

pub hcs_octets : (os : List ℕ) → Each Octet (hcs os)
unfolding hcs
hcs_octets os = octets_of_octets 2 _ (All-map Bit (λ t. bit_of (not t)) (check bit_ops hcs_generator (replicate 16 true) (map flag (line os))) (each _))
  where
    each : (ts : List Bool) → Each (λ t. Bit (bit_of (not t))) ts
    each [] = tt
    each (t ∷ ts) = (bit_of_below (not t), each ts)

module _ (h : Phy) (mac : List ℕ) (ten : length mac ≡ 10) where
  abbrev phy : List ℕ
  phy = phy_octets h

  abbrev plain : List ℕ
  plain = mac ++ hcs (phy ++ mac)

  abbrev secret : List ℕ
  secret = mixed (scrambler h.seed) plain

  secret_long : length secret ≡ 12
  secret_long = omega (arith, length_mixed (scrambler h.seed) plain, length-append mac (hcs (phy ++ mac)), length_hcs (phy ++ mac))

  pub header_codeword : Each Octet mac → Codeword (header_word h mac)
  unfolding header_word header_message
  header_codeword ok =
      let long : length (phy ++ secret) ≡ 16 = omega (arith, length-append phy secret, length_phy_octets h, secret_long) in
      let plain_octets = All-append Octet mac (hcs (phy ++ mac)) ok (hcs_octets (phy ++ mac)) in
      message_codeword (phy ++ secret) (All-append Octet phy secret (phy_octets_octets h) (mixed_octets (scrambler h.seed) plain plain_octets)) (omega arith) (omega arith)

  header_parts : header_word h mac ≡ phy ++ (secret ++ parity (phy ++ secret))
  unfolding header_word header_message
  header_parts = append_assoc phy secret (parity (phy ++ secret))

  pub header_front : take 4 (header_word h mac) ≡ phy_octets h
  header_front = ap (take 4) header_parts ∙ take_at phy (secret ++ parity (phy ++ secret)) 4 (length_phy_octets h)

  header_middle : take 12 (drop 4 (header_word h mac)) ≡ secret
  header_middle =
      let tail = parity (phy ++ secret) in
      ap (λ l. take 12 (drop 4 l)) header_parts ∙ ap (take 12) (drop_at phy (secret ++ tail) 4 (length_phy_octets h)) ∙ take_at secret tail 12 secret_long

  -- what is read of it, where its fields fit their bits
  module _ (seed_fits : h.seed < 16) (length_fits : h.length < 2 ^ 23) (reserved_fits : h.reserved < 16) where
    pub phy_back : phy_read (header_word h mac) ≡ h
    unfolding phy_read
    phy_back = ap (λ l. unpacked (joined l)) header_front ∙ ap unpacked (joined_phy_octets h) ∙ unpacked_packed h seed_fits length_fits reserved_fits

    pub plain_back : plain_read (header_word h mac) ≡ mac ++ hcs (phy_octets h ++ mac)
    unfolding plain_read
    plain_back = ap₂ mixed (ap (λ (p : Phy). scrambler p.seed) phy_back) header_middle ∙ mixed_twice (scrambler h.seed) plain

    pub mac_back : mac_read (header_word h mac) ≡ mac
    mac_back = ap (take 10) plain_back ∙ take_at mac (hcs (phy ++ mac)) 10 ten

    pub hcs_back : hcs_read (header_word h mac) ≡ hcs (take 4 (header_word h mac) ++ mac_read (header_word h mac))
    hcs_back = ap (drop 10) plain_back ∙ drop_at mac (hcs (phy ++ mac)) 10 ten ∙ ap₂ (λ p m. hcs (p ++ m)) (sym header_front) (sym mac_back)

-- ---- read in a window

pub header_at : (f : Frame) (rest : List ℕ) → length f.mac ≡ 10
    → header_part (row f.mode).channels (frame_chips f ++ rest) ≡ header_chips (header_word (phy_of f) f.mac)
unfolding header_part
header_at f rest ten =
    let word = header_word (phy_of f) f.mac in
    ap (take 4096) (ap (drop (2560 * (row f.mode).channels)) (frame_parts f rest) ∙ drop_at (preamble f.mode) _ _ (length_preamble f.mode))
    ∙ take_at (header_chips word) (payload_of f ++ rest) 4096 (length_header_chips word (length_header_word (phy_of f) f.mac ten))

pub header_back : (f : Frame) (rest : List ℕ) → length f.mac ≡ 10 → Each Octet f.mac
    → header_read (row f.mode).channels (frame_chips f ++ rest) ≡ header_word (phy_of f) f.mac
unfolding header_read
header_back f rest ten ok =
    let word = header_word (phy_of f) f.mac in
    ap despread (header_at f rest ten) ∙ despread_chips word (length_header_word (phy_of f) f.mac ten) (header_codeword (phy_of f) f.mac ten ok).octets_all
