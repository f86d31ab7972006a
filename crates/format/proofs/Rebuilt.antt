-- Words that are codewords are the words of the frame that is read from them.
use Rattle.std.proofs.Common.{◌≡◌, ℕ, zero, suc, ◌+◌, ◌-◌, ◌*◌, ◌/◌, ◌%◌, ◌^◌, ◌<◌, ◌≤◌, min, Bool, true, false, cond, eqb, List, [], ◌∷◌, ◌++◌, length, take, drop, Some, sym, refl, ap, ◌∙◌, subst, ap₂, zero-add, arith}
use Rattle.std.specs.List.{AllByRecursion as Each}
use Rattle.std.proofs.lemmas.List.{append-nil, length-append, length-take, length-take-le, length-drop, take_all, take-take, take_at, drop_at, drop-drop, drop-take, take-append-drop}
use Rattle.std.proofs.ByRecursion.{All-append, All-take, All-drop}
use Rattle.std.proofs.lemmas.Bool.Decides.{nat_tests}
use Rattle.elements.specs.Octets.{octets, Octet}
use Rattle.polynomials.specs.Differences.{differing}
use Rattle.coding.specs.Codewords.{Codeword}
use Rattle.coding.proofs.LeastDistance.{octets_swap, octets_triangle}
use Rattle.format.specs.declared.code.Code.TheVariants.{A, MinusA}
use Rattle.format.specs.Sequences.{after, mixed, scrambler}
use Rattle.format.specs.Bits.{bit_of}
use Rattle.format.specs.Codes.{code_a, inverted}
use Rattle.format.specs.Header.{packed, unpacked, low_first, joined, phy_octets, hcs, header_message, header_word}
use Rattle.format.specs.Payload.{word_count}
use Rattle.format.specs.Frame.{Frame, signed}
use Rattle.format.specs.Reading.{read_code, word_length, phy_read, plain_read, mac_read, hcs_read, messages, body_read}
use Rattle.format.specs.Fits.{own_word}
use Rattle.format.proofs.Lengths.{length_mixed, length_signed}
use Rattle.format.proofs.Scrambling.{mixed_octets, mixed_twice}
use Rattle.format.proofs.PhyFields.{joined_below}
use Rattle.format.proofs.PayloadBack.{whole, scrambled, own_word_is}
use Rattle.format.proofs.CodesApart.{codes_opposite}

-- ---- the PHY header's fields

bit_of_eqb : (b : ℕ) → b < 2 → bit_of (eqb b 1) ≡ b
bit_of_eqb zero h = refl
bit_of_eqb (suc zero) h = refl
bit_of_eqb (suc (suc b)) h = absurd (omega arith)

pub packed_unpacked : (v : ℕ) → v < 2 ^ 32 → packed (unpacked v) ≡ v
unfolding packed unpacked
packed_unpacked v h =
    let p : v / 2 ^ 5 ≡ v / 2 ^ 4 / 2 = omega arith in
    let q : v / 2 ^ 28 ≡ v / 2 ^ 5 / 2 ^ 23 = omega arith in
    omega (arith, bit_of_eqb (v / 2 ^ 4 % 2) (omega arith))

pub low_first_joined : (os : List ℕ) → Each Octet os → low_first (length os) (joined os) ≡ os
unfolding low_first joined
low_first_joined [] h = refl
low_first_joined (o ∷ os) h =
    let low = h.0 in
    let j = joined os in
    ap₂ (λ x xs. x ∷ xs) (omega arith) (ap (low_first (length os)) (let e : (o + 256 * j) / 256 ≡ j = omega arith in e) ∙ low_first_joined os h.1)

pub seed_below : (v : ℕ) → (unpacked v).seed < 16
unfolding unpacked
seed_below v = omega arith

pub length_below : (v : ℕ) → (unpacked v).length < 2 ^ 23
unfolding unpacked
length_below v = omega arith

pub reserved_below : (v : ℕ) → v < 2 ^ 32 → (unpacked v).reserved < 16
unfolding unpacked
reserved_below v h = omega arith

-- ---- a codeword

-- its message, and that it is the message and its parity
abbrev pub message : List ℕ → List ℕ
message w = take (length w - 16) w

pub codeword_whole : (w : List ℕ) → Codeword w → whole (message w) ≡ w
codeword_whole w c = ap (λ r. message w ++ r) (sym c.ends) ∙ take-append-drop (length w - 16) w

-- ---- the header word

module _ (h : List ℕ) (code : Codeword h) (long : length h ≡ 32) where
  abbrev front : List ℕ
  front = take 4 h

  abbrev middle : List ℕ
  middle = take 12 (drop 4 h)

  front_octets : Each Octet front
  front_octets = All-take Octet 4 h code.octets_all

  front_long : length front ≡ 4
  front_long = length-take-le 4 h (omega arith)

  front_below : joined front < 2 ^ 32
  front_below = subst (λ n. joined front < 256 ^ n) front_long (joined_below front front_octets)

  pub seed_read_below : (phy_read h).seed < 16
  unfolding phy_read
  seed_read_below = seed_below (joined front)

  pub length_read_below : (phy_read h).length < 2 ^ 23
  unfolding phy_read
  length_read_below = length_below (joined front)

  pub reserved_read_below : (phy_read h).reserved < 16
  unfolding phy_read
  reserved_read_below = reserved_below (joined front) front_below

  length_plain : length (plain_read h) ≡ 12
  unfolding plain_read
  length_plain = length_mixed _ middle ∙ length-take-le 12 (drop 4 h) (omega (arith, length-drop 4 h))

  pub length_mac_read : length (mac_read h) ≡ 10
  length_mac_read = length-take-le 10 (plain_read h) (omega (arith, length_plain))

  pub mac_read_octets : Each Octet (mac_read h)
  unfolding plain_read
  mac_read_octets = All-take Octet 10 (plain_read h) (mixed_octets _ middle (All-take Octet 12 (drop 4 h) (All-drop Octet 4 h code.octets_all)))

  pub phy_rebuilt : phy_octets (phy_read h) ≡ take 4 h
  unfolding phy_octets phy_read
  phy_rebuilt =
      ap (low_first 4) (packed_unpacked (joined front) front_below)
      ∙ ap (λ n. low_first n (joined front)) (sym front_long) ∙ low_first_joined front front_octets

  pub header_rebuilt : hcs_read h ≡ hcs (take 4 h ++ mac_read h) → header_word (phy_read h) (mac_read h) ≡ h
  unfolding header_word header_message plain_read
  header_rebuilt checked =
      let r = scrambler (phy_read h).seed in
      let sent : mixed r (mac_read h ++ hcs (take 4 h ++ mac_read h)) ≡ middle =
      ap (λ l. mixed r (mac_read h ++ l)) (sym checked) ∙ ap (mixed r) (take-append-drop 10 (plain_read h)) ∙ mixed_twice r middle in
      let sixteen : front ++ middle ≡ take 16 h =
      ap₂ ◌++◌ (sym (take-take 4 16 h (omega arith))) (sym (drop-take 4 12 h)) ∙ take-append-drop 4 (take 16 h) in
      ap (λ p. whole (p ++ mixed r (mac_read h ++ hcs (p ++ mac_read h)))) phy_rebuilt
      ∙ ap (λ l. whole (front ++ l)) sent ∙ ap whole (sixteen ∙ ap (λ n. take (n - 16) h) (sym long)) ∙ codeword_whole h code

-- ---- the body

module _ (seed L : ℕ) (vs : ℕ → List ℕ) (each : (k : ℕ) → k < word_count L → Codeword (vs k) × (length (vs k) ≡ word_length L k)) where
  message_long : (k : ℕ) → k < word_count L → length (message (vs k)) ≡ min 224 (L - 224 * k)
  message_long k h = omega (arith, length-take (length (vs k) - 16) (vs k), (each k h).1)

  messages_long : (n k : ℕ) → k + n ≡ word_count L → length (messages n k vs) ≡ L - 224 * k
  unfolding messages
  messages_long zero k e = omega arith
  messages_long (suc n) k e =
      omega (arith, length-append (message (vs k)) (messages n (suc k) vs), message_long k (omega arith), messages_long n (suc k) (omega arith))

  messages_octets : (n k : ℕ) → k + n ≡ word_count L → Each Octet (messages n k vs)
  unfolding messages
  messages_octets zero k e = tt
  messages_octets (suc n) k e =
      All-append Octet (message (vs k)) (messages n (suc k) vs) (All-take Octet _ (vs k) (each k (omega arith)).0.octets_all) (messages_octets n (suc k) (omega arith))

  first_message : (n k : ℕ) → k + suc n ≡ word_count L → take 224 (messages (suc n) k vs) ≡ message (vs k)
  unfolding messages
  first_message zero k e = ap (take 224) (append-nil (message (vs k))) ∙ take_all 224 (message (vs k)) (omega (arith, message_long k (omega arith)))
  first_message (suc n) k e = take_at (message (vs k)) (messages (suc n) (suc k) vs) 224 (omega (arith, message_long k (omega arith)))

  -- message j of those from k on
  message_at : (n k j i : ℕ) → k + n ≡ word_count L → j < n → k + j ≡ i → take 224 (drop (224 * j) (messages n k vs)) ≡ message (vs i)
  unfolding messages
  message_at zero k j i e h s = absurd (omega arith)
  message_at (suc n) k zero i e h s = first_message n k e ∙ ap (λ x. message (vs x)) (omega arith)
  message_at (suc n) k (suc j) i e h s =
      let all = messages (suc n) k vs in
      ap (take 224)
      (ap (λ x. drop x all) (let e : 224 * suc j ≡ 224 + 224 * j = omega arith in e) ∙ sym (drop-drop (224 * j) 224 all)
      ∙ ap (drop (224 * j)) (drop_at (message (vs k)) (messages n (suc k) vs) 224 (omega (arith, message_long k (omega arith)))))
      ∙ message_at n (suc k) j i (omega arith) (omega arith) (omega arith)

  pub length_body_read : length (body_read seed (word_count L) vs) ≡ L
  unfolding body_read
  length_body_read = length_mixed _ (messages (word_count L) 0 vs) ∙ messages_long (word_count L) 0 (zero-add _) ∙ omega arith

  pub body_read_octets : Each Octet (body_read seed (word_count L) vs)
  unfolding body_read
  body_read_octets = mixed_octets _ (messages (word_count L) 0 vs) (messages_octets (word_count L) 0 (zero-add _))

  pub body_rebuilt : (f : Frame) → f.seed ≡ seed → f.body ≡ body_read seed (word_count L) vs → (k : ℕ) → k < word_count L → own_word f k ≡ vs k
  unfolding body_read
  body_rebuilt f s b k h =
      let same : scrambled f ≡ messages (word_count L) 0 vs = ap₂ (λ x l. mixed (after 96 (scrambler x)) l) s b ∙ mixed_twice (after 96 (scrambler seed)) _ in
      let long : length f.body ≡ L = ap length b ∙ length_body_read in
      own_word_is f k (omega arith)
      ∙ ap whole (ap (λ l. take 224 (drop (224 * k) l)) same ∙ message_at (word_count L) 0 k k (zero-add _) h (zero-add k))
      ∙ codeword_whole (vs k) (each k h).0

-- ---- codes

pub signed_read : (s : Bool) (c : List ℕ) → read_code c ≡ Some (cond s MinusA A) → differing octets c (signed s) ≤ 31
unfolding read_code
signed_read true c e = grind (arith, nat_tests)
signed_read false c e = grind (arith, nat_tests)

pub read_signed : (s : Bool) (c : List ℕ) → length c ≡ 128 → differing octets c (signed s) ≤ 31 → read_code c ≡ Some (cond s MinusA A)
unfolding read_code
read_signed false c long h = grind (arith, nat_tests)
read_signed true c long h =
    let far = octets_triangle code_a c (inverted code_a) (length_signed false ∙ sym long) (long ∙ sym (length_signed true)) in
    let away : 97 ≤ differing octets c code_a = omega (arith, codes_opposite, octets_swap c code_a) in
    grind (arith, nat_tests)
