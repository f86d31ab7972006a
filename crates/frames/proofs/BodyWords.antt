-- The body's words, one behind the other.
use Rattle.std.proofs.Common.{◌≡◌, ℕ, zero, suc, ◌+◌, ◌*◌, ◌<◌, ◌≤◌, min, List, ◌++◌, length, take, drop, sym, refl, ap, ◌∙◌, ⊎_elim, add-one, arith}
use borrow.Rule.Slice.PartMut.{put_mid}
use Rattle.std.proofs.lemmas.List.{length-append, append_assoc, append-nil, take_at, take_all, take_min, drop_at, drop_all, drop-drop, length-drop, length-take-le}
use Rattle.std.proofs.lemmas.Bool.{cases_lt}
use Rattle.coding.specs.Codewords.{parity}
use Rattle.coding.proofs.ParityFacts.{length_parity}
use Rattle.format.specs.Payload.{word_count, coded_octets, coded}
use Rattle.format.proofs.Lengths.{length_coded}
use Rattle.frames.proofs.Fronts.{piece_more}

abbrev word : List ℕ → List ℕ
word os = take 224 os ++ parity (take 224 os)

-- one word more
coded_more : (k : ℕ) (os : List ℕ) → coded k os ++ word (drop (224 * k) os) ≡ coded (k + 1) os
unfolding coded
coded_more k os = grown k os ∙ sym (ap (λ n. coded n os) (add-one k))
  where
    grown : (n : ℕ) (bs : List ℕ) → coded n bs ++ word (drop (224 * n) bs) ≡ coded (suc n) bs
    grown zero bs = sym (append-nil (word bs))
    grown (suc n) bs =
        let place : 224 + 224 * n ≡ 224 * suc n = omega arith in
        append_assoc (word bs) (coded n (drop 224 bs)) (word (drop (224 * suc n) bs))
        ∙ ap (λ l. word bs ++ (coded n (drop 224 bs) ++ word l)) (sym (drop-drop (224 * n) 224 bs ∙ ap (λ m. drop m bs) place))
        ∙ ap (λ l. word bs ++ l) (grown n (drop 224 bs))

-- the words before the last are full
coded_full : (k : ℕ) (os : List ℕ) → 224 * k ≤ length os → length (coded k os) ≡ 240 * k
unfolding coded
coded_full zero os h = refl
coded_full (suc k) os h =
    let m = take 224 os in
    omega (
      arith,
      length-append (m ++ parity m) (coded k (drop 224 os)),
      length-append m (parity m),
      length_parity m,
      length-take-le 224 os (omega arith),
      coded_full k (drop 224 os) (rw (length-drop 224 os) (omega arith)),
    )

-- a piece of at most 224 octets off the front of what is left
pub piece_is : (rest message left : List ℕ) → rest ≡ message ++ left → length message ≡ min 224 (length rest) → message ≡ take 224 rest
piece_is rest message left e h = sym (take_at message left (min 224 (length rest)) h) ∙ ap (take (min 224 (length rest))) (sym e) ∙ take_min 224 rest

-- and what is left behind it
pub left_is : (rest message left body : List ℕ) (k : ℕ) → rest ≡ message ++ left → length message ≡ min 224 (length rest) → rest ≡ drop (224 * k) body → left ≡ drop (224 * (k + 1)) body
left_is rest message left body k e h f =
    let place : 224 * k + 224 ≡ 224 * (k + 1) = omega arith in
    ⊎_elim
    (λ (s : length rest < 224). let none : length left ≡ 0 = omega (arith, ap length e, length-append message left) in
    sym (take_all 0 left (omega arith)) ∙ sym (drop_all (224 * (k + 1)) body (omega (arith, ap length f, length-drop (224 * k) body))))
    (λ (s : 224 ≤ length rest). sym (drop_at message left 224 (omega arith)) ∙ ap (drop 224) (sym e ∙ f) ∙ drop-drop 224 (224 * k) body ∙ ap (λ n. drop n body) place)
    (cases_lt (length rest) 224)

pub word_more : (octets word message body : List ℕ) (k m : ℕ) → 224 * k ≤ length body → 240 * k ≤ length octets → message ≡ take 224 (drop (224 * k) body) → word ≡ message ++ parity message
    → take (length (coded k body)) octets ≡ coded k body → take (length (coded (k + 1) body)) (put_mid (240 * k) m octets word) ≡ coded (k + 1) body
word_more octets word message body k m some fits em ew e =
    let before : length (coded k body) ≡ 240 * k = coded_full k body some in
    let more : coded k body ++ word ≡ coded (k + 1) body = ap (λ l. coded k body ++ l) (ew ∙ ap (λ l. l ++ parity l) em) ∙ coded_more k body in
    let long : length (coded (k + 1) body) ≡ 240 * k + length word = ap length (sym more) ∙ length-append (coded k body) word ∙ ap (λ n. n + length word) before in
    piece_more octets word (coded k body) (coded (k + 1) body) (240 * k) m (length (coded (k + 1) body)) fits long (ap (λ n. take n octets) (sym before) ∙ e) more

-- the words of the whole body
pub words_all : (octets body : List ℕ) (k : ℕ) → length body ≤ 224 * k → 224 * k ≤ length body + 223 → length octets ≡ coded_octets (length body)
    → take (length (coded k body)) octets ≡ coded k body → octets ≡ coded (word_count (length body)) body
words_all octets body k low high long e =
    let count : k ≡ word_count (length body) = omega arith in
    sym (take_all (length (coded k body)) octets (omega (arith, length_coded k body low))) ∙ e ∙ ap (λ n. coded n body) count
