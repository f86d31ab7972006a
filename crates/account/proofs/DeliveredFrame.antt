-- The frame that mended words make: it is lawful, its own words are those, and it fits the window that they were read from.
use Rattle.std.proofs.Common.{◌≡◌, ℕ, zero, suc, ◌+◌, ◌-◌, ◌<◌, ◌≤◌, List, [], ◌++◌, map, length, get_or, take, drop, None, Ok, sym, refl, ap, ◌∙◌, subst, ap₂, zero-add, add-one, arith}
use Rattle.std.specs.List.{range_with_len, AllZip}
use Rattle.std.proofs.lemmas.List.FromFn.{length-map-range_with_len, get_or-map-range_with_len, fill_by_all}
use Rattle.std.proofs.lemmas.List.Elements.{length_all_zip, AllZip-get_or}
use Rattle.std.proofs.lemmas.List.{length-drop, length-take-le}
use Rattle.std.proofs.lemmas.Bool.Decides.{nat_tests}
use Rattle.elements.specs.Octets.{octets}
use Rattle.polynomials.specs.Differences.{differing}
use Rattle.elements.specs.OctetLaws.{octets_laws}
use Rattle.coding.specs.Codewords.{Codeword}
use Rattle.coding.proofs.DifferingLaws.{differing_none}
use Rattle.format.specs.declared.mode.Mode.{Mode}
use Rattle.format.specs.Sequences.{after, mixed, scrambler}
use Rattle.format.specs.Header.{hcs, header_word}
use Rattle.format.specs.Payload.{word_count}
use Rattle.format.specs.Frame.{Frame, Lawful, phy_of, frame_length}
use Rattle.format.specs.Reading.{header_read, word_length, word_read, phy_read, plain_read, mac_read, hcs_read, messages, body_read}
use Rattle.format.specs.Fits.{own_header, own_word, own_count, Fits, words_apart}
use Rattle.format.proofs.Lengths.{length_mixed, length_hcs}
use Rattle.format.proofs.PhyFields.{phy_path}
use Rattle.format.proofs.OnlyOne.{length_header_read, length_word_read}
use Rattle.format.proofs.Rebuilt.{seed_read_below, length_mac_read, mac_read_octets, header_rebuilt, length_body_read, body_read_octets, body_rebuilt}
use Rattle.account.specs.Rows.{preamble_row, header_row}
use Rattle.account.specs.Reads.{messages_of, words_read}
use Rattle.account.proofs.MendedWords.{Near, apart}
use Rattle.account.proofs.ModeRead.{mode_channels, codes_near}

-- ---- lists made from the words' places

pub each_counted : {X : Type 0} (R : X → X → Type 0) (u v : ℕ → X) (i n : ℕ) → ((k : ℕ) → i ≤ k → k < i + n → R (u k) (v k))
    → AllZip R (map u (range_with_len i n)) (map v (range_with_len i n))
each_counted R u v i zero h = tt
each_counted R u v i (suc n) h = (h i (omega arith) (omega arith), each_counted R u v (i + 1) n (λ k a b. h k (omega arith) (omega arith)))

messages_counted : (f : ℕ → List ℕ) (i n : ℕ) → messages_of (map f (range_with_len i n)) ≡ messages n i f
unfolding messages
messages_counted f i zero = refl
messages_counted f i (suc n) = ap (λ l. take (length (f i) - 16) (f i) ++ l) (messages_counted f (i + 1) n ∙ ap (λ j. messages n j f) (add-one i))

apart_counted : (f : Frame) (w : List ℕ) (i n : ℕ) → apart (map (word_read f.mode (length f.body) w) (range_with_len i n)) (map (own_word f) (range_with_len i n)) ≡ words_apart f w n i
unfolding words_apart
apart_counted f w i zero = refl
apart_counted f w i (suc n) =
    ap (λ x. differing octets (word_read f.mode (length f.body) w i) (own_word f i) + x) (apart_counted f w (i + 1) n ∙ ap (words_apart f w n) (add-one i))

-- ---- the header word

module _ (h : List ℕ) (long : length h ≡ 32) (row : header_row h ≡ None) where
  tests : (differing octets (hcs_read h) (hcs (take 4 h ++ mac_read h)) ≡ 0) × ((phy_read h).reserved ≡ 0) × ((phy_read h).length ≤ 2048)
  tests = grind (arith, nat_tests)

  length_hcs_read : length (hcs_read h) ≡ 2
  unfolding plain_read
  length_hcs_read =
      length-drop 10 (plain_read h) ∙ ap (λ n. n - 10) (length_mixed _ (take 12 (drop 4 h)) ∙ length-take-le 12 (drop 4 h) (omega (arith, length-drop 4 h)))

  check_right : hcs_read h ≡ hcs (take 4 h ++ mac_read h)
  check_right = differing_none octets_laws.compares (hcs_read h) (hcs (take 4 h ++ mac_read h)) (length_hcs_read ∙ sym (length_hcs (take 4 h ++ mac_read h))) tests.0

-- ---- the frame

-- the body words, by their places
abbrev word_of : List (List ℕ) → ℕ → List ℕ
word_of vs k = get_or vs k []

abbrev pub frame_of : Mode → List ℕ → List (List ℕ) → Frame
frame_of m h vs =
    let p = phy_read h in
    record { mode = m; seed = p.seed; aggregation = p.aggregation; mac = mac_read h; body = body_read p.seed (word_count p.length) (word_of vs) }

-- what is said of it: its body and its own words, too
pub record Makes (n : ℕ) (w : List ℕ) (m : Mode) (h : List ℕ) (vs : List (List ℕ)) : Type 0 where
  pub lawful : Lawful (frame_of m h vs)
  pub fits : Fits 8 n (frame_of m h vs) w
  pub body_long : length (frame_of m h vs).body ≡ (phy_read h).length
  pub body : mixed (after 96 (scrambler (phy_read h).seed)) (messages_of vs) ≡ (frame_of m h vs).body
  pub header : own_header (frame_of m h vs) ≡ h
  pub words : apart (words_read m (phy_read h).length w) vs ≡ words_apart (frame_of m h vs) w (own_count (frame_of m h vs)) 0

module _ (n : ℕ) (w : List ℕ) (m : Mode) (h : List ℕ) (vs : List (List ℕ)) (told : preamble_row n w ≡ Ok m) (head : Near 8 (header_read n w) h) (row : header_row h ≡ None)
    (whole : frame_length m (phy_read h).length ≤ length w) (words : AllZip (Near 8) (words_read m (phy_read h).length w) vs) where
  abbrev L : ℕ
  L = (phy_read h).length

  abbrev seed : ℕ
  seed = (phy_read h).seed

  abbrev frame : Frame
  frame = frame_of m h vs

  h_long : length h ≡ 32
  h_long = sym head.long ∙ length_header_read n w

  read_long : length (words_read m L w) ≡ word_count L
  read_long = length-map-range_with_len (word_read m L w) 0 (word_count L)

  vs_long : length vs ≡ word_count L
  vs_long = sym (length_all_zip (Near 8) (words_read m L w) vs words) ∙ read_long

  near_at : (k : ℕ) → k < word_count L → Near 8 (word_read m L w k) (word_of vs k)
  near_at k b =
      subst (λ x. Near 8 x (word_of vs k)) (get_or-map-range_with_len (word_read m L w) 0 (word_count L) k k [] b (zero-add k))
      (AllZip-get_or (Near 8) (words_read m L w) vs k [] [] words (omega (arith, read_long)))

  each : (k : ℕ) → k < word_count L → Codeword (word_of vs k) × (length (word_of vs k) ≡ word_length L k)
  each k b = ((near_at k b).coded, sym (near_at k b).long ∙ length_word_read m L w k)

  body_long : length frame.body ≡ L
  body_long = length_body_read seed L (word_of vs) each

  same_header : own_header frame ≡ h
  same_header =
      ap (λ p. header_word p (mac_read h)) (phy_path (phy_of frame) (phy_read h) refl refl body_long (sym (tests h h_long row).1))
      ∙ header_rebuilt h head.coded h_long (check_right h h_long row)

  same_word : (k : ℕ) → k < own_count frame → own_word frame k ≡ word_of vs k
  same_word k b = body_rebuilt seed L (word_of vs) each frame refl refl k (omega (arith, body_long))

  lawful : Lawful frame
  lawful =
      record {
        seed_fits = seed_read_below h head.coded h_long;
        mac_long = length_mac_read h head.coded h_long;
        mac_octets = mac_read_octets h head.coded h_long;
        body_short = omega (arith, body_long, (tests h h_long row).2);
        body_octets = body_read_octets seed L (word_of vs) each;
      }

  fits : Fits 8 n frame w
  fits =
      record {
        channels = mode_channels n w m told;
        long = rw body_long whole;
        codes = codes_near n w frame told;
        header = rw same_header head.near;
        words = λ k b. rw (same_word k b, body_long) (near_at k (omega (arith, body_long))).near;
      }

  words_same : apart (words_read m L w) vs ≡ words_apart frame w (own_count frame) 0
  words_same =
      let own : vs ≡ map (own_word frame) (range_with_len 0 (own_count frame)) =
      fill_by_all (own_word frame) vs (own_count frame) [] (vs_long ∙ ap word_count (sym body_long)) (λ k b. sym (same_word k b)) in
      ap₂ apart (ap (λ l. words_read m l w) (sym body_long)) own ∙ apart_counted frame w 0 (own_count frame)

  body_made : mixed (after 96 (scrambler seed)) (messages_of vs) ≡ frame.body
  unfolding body_read
  body_made =
      let by_place : vs ≡ map (word_of vs) (range_with_len 0 (word_count L)) = fill_by_all (word_of vs) vs (word_count L) [] vs_long (λ k b. refl) in
      ap (mixed (after 96 (scrambler seed))) (ap messages_of by_place ∙ messages_counted (word_of vs) 0 (word_count L))

  pub makes : Makes n w m h vs
  makes = record { lawful = lawful; fits = fits; body_long = body_long; body = body_made; header = same_header; words = words_same }
