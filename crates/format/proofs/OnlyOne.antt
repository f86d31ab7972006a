-- At most one lawful frame fits a window within 8 octets a word.
use Rattle.std.proofs.Common.{◌≡◌, ℕ, zero, suc, ◌+◌, ◌-◌, ◌*◌, ◌<◌, ◌≤◌, List, ◌++◌, length, take, sym, refl, ap, ◌∙◌, subst, ap₂, arith}
use Rattle.std.proofs.lemmas.List.FromFn.{length-map-range_with_len}
use Rattle.elements.specs.Octets.{octets}
use Rattle.polynomials.specs.Differences.{differing}
use Rattle.coding.proofs.LeastDistance.{one_within}
use Rattle.format.specs.declared.mode.Mode.{Mode}
use Rattle.format.specs.declared.phy.Phy.{Phy}
use Rattle.format.specs.Sequences.{after, mixed, scrambler}
use Rattle.format.specs.Payload.{word_count}
use Rattle.format.specs.Frame.{Frame, Lawful, phy_of}
use Rattle.format.specs.Reading.{code_at, despread, header_read, payload_octet, payload_octets, word_length, word_read, phy_read, mac_read, messages, body_read}
use Rattle.format.specs.Fits.{own_header, own_word, own_count, Fits, OneFits}
use Rattle.format.proofs.Lengths.{length_octets_of, length_header_word}
use Rattle.format.proofs.HeaderBack.{header_codeword, phy_back, mac_back}
use Rattle.format.proofs.PayloadBack.{length_own_word, word_codeword, body_back}
use Rattle.format.proofs.CodesApart.{some_channels, length_code_at, signs_agree, mode_by_same}
use Rattle.format.proofs.ReadsBack.{short_length}

pub frame_path : (f g : Frame) → f.mode ≡ g.mode → f.seed ≡ g.seed → f.aggregation ≡ g.aggregation → f.mac ≡ g.mac → f.body ≡ g.body → f ≡ g
frame_path f g p q r s t = λ i. record { mode = p i; seed = q i; aggregation = r i; mac = s i; body = t i }

-- how long a word is as it is read
pub length_header_read : (n : ℕ) (w : List ℕ) → length (header_read n w) ≡ 32
unfolding header_read despread
length_header_read n w = length_octets_of 32 _

pub length_word_read : (m : Mode) (L : ℕ) (w : List ℕ) (k : ℕ) → length (word_read m L w k) ≡ word_length L k
unfolding word_read payload_octets
length_word_read m L w k = length-map-range_with_len (payload_octet m w) (240 * k) (word_length L k)

-- words that are the same have the same messages
pub messages_same : (n k : ℕ) (u v : ℕ → List ℕ) → ((i : ℕ) → k ≤ i → i < k + n → u i ≡ v i) → messages n k u ≡ messages n k v
unfolding messages
messages_same zero k u v h = refl
messages_same (suc n) k u v h =
    ap₂ ◌++◌ (ap (λ w. take (length w - 16) w) (h k (omega arith) (omega arith))) (messages_same n (suc k) u v (λ i a b. h i (omega arith) (omega arith)))

pub body_read_same : (seed n : ℕ) (u v : ℕ → List ℕ) → ((i : ℕ) → i < n → u i ≡ v i) → body_read seed n u ≡ body_read seed n v
unfolding body_read
body_read_same seed n u v h = ap (mixed (after 96 (scrambler seed))) (messages_same n 0 u v (λ i _ below. h i (omega arith)))

-- two lawful frames that fit the same window
module _ (r n : ℕ) (f g : Frame) (w : List ℕ) (a : Lawful f) (b : Lawful g) (p : Fits r n f w) (q : Fits r n g w) where
  pub same_mode : f.mode ≡ g.mode
  same_mode =
      let some = some_channels f.mode in
      let one : 1 ≤ n = omega (arith, some.1, p.channels) in
      let long : 2560 * n ≤ length w = omega (arith, p.long, p.channels) in
      let agree = λ (k : ℕ) (h : k < 4). signs_agree f g k (code_at n k w) h (length_code_at n k w h long one) (p.codes k h) (q.codes k h) in
      mode_by_same f.mode g.mode (agree 1 (omega arith)) (agree 2 (omega arith)) (agree 3 (omega arith))

  module _ (near : r ≤ 8) where
    pub same_header : own_header f ≡ own_header g
    same_header =
        let long = length_header_read n w in
        one_within (header_read n w) (own_header f) (own_header g)
        (header_codeword (phy_of f) f.mac a.mac_long a.mac_octets) (header_codeword (phy_of g) g.mac b.mac_long b.mac_octets)
        (long ∙ sym (length_header_word (phy_of f) f.mac a.mac_long)) (long ∙ sym (length_header_word (phy_of g) g.mac b.mac_long))
        (omega (arith, p.header)) (omega (arith, q.header))

    pub same_phy : phy_of f ≡ phy_of g
    same_phy =
        sym (phy_back (phy_of f) f.mac a.mac_long a.seed_fits (short_length f a) (omega arith))
        ∙ ap phy_read same_header ∙ phy_back (phy_of g) g.mac b.mac_long b.seed_fits (short_length g b) (omega arith)

    pub same_mac : f.mac ≡ g.mac
    same_mac =
        sym (mac_back (phy_of f) f.mac a.mac_long a.seed_fits (short_length f a) (omega arith))
        ∙ ap mac_read same_header ∙ mac_back (phy_of g) g.mac b.mac_long b.seed_fits (short_length g b) (omega arith)

    same_seed : f.seed ≡ g.seed
    same_seed = ap (λ (h : Phy). h.seed) same_phy

    same_length : length f.body ≡ length g.body
    same_length = ap (λ (h : Phy). h.length) same_phy

    pub same_word : (k : ℕ) → k < own_count f → own_word f k ≡ own_word g k
    same_word k h =
        let L = length f.body in
        let e = same_length in
        let h' : k < own_count g = omega arith in
        let read = word_read f.mode L w k in
        let same : read ≡ word_read g.mode (length g.body) w k = ap₂ (λ m l. word_read m l w k) same_mode e in
        let long = length_word_read f.mode L w k in
        one_within read (own_word f k) (own_word g k) (word_codeword f a.body_octets k h) (word_codeword g b.body_octets k h')
        (long ∙ sym (length_own_word f k h)) (long ∙ ap (λ l. word_length l k) e ∙ sym (length_own_word g k h'))
        (omega (arith, p.words k h)) (subst (λ x. differing octets x (own_word g k) ≤ 8) (sym same) (omega (arith, q.words k h')))

    pub same_body : f.body ≡ g.body
    same_body =
        sym (body_back f) ∙ body_read_same f.seed (own_count f) (own_word f) (own_word g) same_word
        ∙ ap₂ (λ s l. body_read s (word_count l) (own_word g)) same_seed same_length ∙ body_back g

    pub same_frame : f ≡ g
    same_frame = frame_path f g same_mode same_seed (ap (λ (h : Phy). h.aggregation) same_phy) same_mac same_body

pub one_fits : OneFits 8
one_fits n f g w a b p q = same_frame 8 n f g w a b p q (omega arith)
