-- The parity of a message has 16 octets, and a message with its parity behind it vanishes at alpha^1 to alpha^16.
use Rattle.std.proofs.Common.{◌≡◌, ℕ, zero, suc, ◌+◌, ◌-◌, ◌<◌, ◌≤◌, ltb, List, [], ◌∷◌, ◌++◌, length, get_or, take, drop, replicate, sym, refl, ap, ◌∙◌, subst, ap₂, arith, ltb→lt, length-append, take-append-drop}
use mathlib.Core.List.{map-append}
use lib.Bits.{xor_zero_l}
use lib.ListN.{length-replicate}
use Rattle.std.specs.List.{AllByRecursion as Each}
use Rattle.std.proofs.ByRecursion.{All-from_get_or, All-take, All-append}
use Rattle.std.proofs.lemmas.List.{take_at, drop_at}
use Rattle.elements.specs.Octets.{octets, Octet, double, times, product, squares, inverse, power}
use Rattle.polynomials.specs.Polynomials.{onto}
use Rattle.polynomials.specs.Division.{divided, division}
use Rattle.polynomials.specs.Checks.{dividend, check}
use Rattle.elements.specs.Tests.{at, agree}
use Rattle.coding.specs.Sums.{horner}
use Rattle.coding.specs.Decoder.{InCode}
use Rattle.coding.specs.Codewords.{roots_up_to, generator, parity, Codeword}
use Rattle.coding.proofs.Distance.{eval_high, horner_eval}
use Rattle.coding.proofs.DivisionValues.{left, length_left, left_value}
use Rattle.coding.proofs.Carrier.{low, lift, low_lift, low_ok, part_path, low_horner, low_left}
use Rattle.coding.proofs.OctetField.{octets_field, Proper, proper_ops, proper, alpha}

-- computed of the generator

tail : List ℕ
unfolding generator
tail = drop 1 generator

generator_is : generator ≡ 1 ∷ tail
unfolding tail generator roots_up_to power double product times
generator_is = refl

tail_long : length tail ≡ 16
unfolding tail generator roots_up_to power double product times
tail_long = refl

tail_octets : Each Octet tail
unfolding tail generator roots_up_to power double product times
tail_octets = All-from_get_or Octet tail 0 (λ i h. ltb→lt _ 256 (at (λ i. ltb (get_or tail i 0) 256) 16 tt i h))

generator_root : (i : ℕ) → i < 16 → horner octets 0 (1 ∷ tail) (power (suc i)) ≡ 0
unfolding tail generator roots_up_to power double product times
generator_root i h = agree (λ i. horner octets 0 (1 ∷ tail) (power (suc i))) (λ _. 0) 16 tt i h

-- the parity is what a division leaves

onto_zeros : (n : ℕ) (ys : List ℕ) → n ≤ length ys → onto octets (replicate n 0) ys ≡ ys
onto_zeros zero ys le = refl
onto_zeros (suc n) [] le = absurd (omega arith)
onto_zeros (suc n) (y ∷ ys) le = ap₂ {C = List ℕ} (λ x xs. x ∷ xs) (xor_zero_l y) (onto_zeros n ys (omega arith))

inverse_one : inverse 1 ≡ 1
unfolding inverse squares product times double
inverse_one = refl

parity_is : (m : List ℕ) → parity m ≡ left octets 1 tail m
unfolding parity
parity_is m =
    let xs = m ++ replicate (length tail) 0 in
    let long : length xs ≡ length m + length tail = length-append m (replicate (length tail) 0) ∙ ap (λ n. length m + n) (length-replicate (length tail) 0) in
    let degree : length (1 ∷ tail) - 1 ≡ length tail = omega arith in
    ap (λ g. check octets g (replicate 16 0) m) generator_is
    ∙ ap (λ n. drop (length m) (division octets (1 ∷ tail) (dividend octets n (replicate 16 0) m)).1) degree
    ∙ ap (λ r. drop (length m) (division octets (1 ∷ tail) r).1) (onto_zeros 16 xs (omega (arith, tail_long)))
    ∙ ap₂ (λ u n. drop (length m) (divided octets u tail n xs)) inverse_one (omega arith)

pub length_parity : (m : List ℕ) → length (parity m) ≡ 16
length_parity m = ap length (parity_is m) ∙ length_left octets 1 tail m ∙ tail_long

-- the same in the field

abbrev one' : Proper
one' = proper_ops.one

abbrev tail' : List Proper
tail' = lift Octet tail tail_octets

left_low : (m : List Proper) → low (left proper_ops one' tail' m) ≡ parity (low m)
left_low m = low_left octets_field one' tail' m ∙ ap (λ g. left octets 1 g (low m)) (low_lift Octet tail tail_octets) ∙ sym (parity_is (low m))

pub parity_octets : (m : List ℕ) → Each Octet m → Each Octet (parity m)
parity_octets m h = subst (Each Octet) (left_low (lift Octet m h) ∙ ap parity (low_lift Octet m h)) (low_ok (left proper_ops one' tail' (lift Octet m h)))

root' : (i : ℕ) → i < 16 → eval_high proper_ops (one' ∷ tail') (alpha (suc i)) ≡ proper_ops.zero
root' i h =
    let x = alpha (suc i) in
    sym (horner_eval proper (one' ∷ tail') x)
    ∙ part_path octets_field _ _
    (low_horner octets_field proper_ops.zero (one' ∷ tail') x
    ∙ ap (λ g. horner octets 0 (1 ∷ g) (power (suc i))) (low_lift Octet tail tail_octets) ∙ generator_root i h)

pub message_vanishes : (m : List ℕ) → Each Octet m → (i : ℕ) → i < 16 → horner octets 0 (m ++ parity m) (power (suc i)) ≡ 0
message_vanishes m h i below =
    let x = alpha (suc i) in
    let m' = lift Octet m h in
    let w' = m' ++ left proper_ops one' tail' m' in
    let w_low : low w' ≡ m ++ parity m =
    map-append (λ x. x.0) m' (left proper_ops one' tail' m') ∙ ap (λ r. low m' ++ r) (left_low m') ∙ ap (λ r. r ++ parity r) (low_lift Octet m h) in
    sym (low_horner octets_field proper_ops.zero w' x ∙ ap (λ w. horner octets 0 w (power (suc i))) w_low)
    ∙ ap (λ e. e.0) (horner_eval proper w' x ∙ left_value proper one' one' x tail' (proper.mul-one one') (root' i below) m')

-- a codeword is a message and its parity
pub codeword_parts : (w : List ℕ) → Codeword w → (m : List ℕ) × Each Octet m × (w ≡ m ++ parity m)
codeword_parts w c =
    let n = length w - 16 in
    (take n w, All-take Octet n w c.octets_all, sym (take-append-drop n w) ∙ ap (λ r. take n w ++ r) c.ends)

pub codeword_made : (m : List ℕ) → Each Octet m → 1 ≤ length m → length m ≤ 224 → Codeword (m ++ parity m)
codeword_made m h some few =
    let long : length (m ++ parity m) ≡ length m + 16 = length-append m (parity m) ∙ ap (λ n. length m + n) (length_parity m) in
    let n = length (m ++ parity m) - 16 in
    let at_m : length m ≡ n = omega arith in
    record {
      octets_all = All-append Octet m (parity m) h (parity_octets m h);
      long = omega arith;
      short = omega arith;
      ends = drop_at m (parity m) n at_m ∙ ap parity (sym (take_at m (parity m) n at_m));
    }

pub codeword_vanishes : (w : List ℕ) → Codeword w → InCode octets power 16 w
codeword_vanishes w c zero from to = absurd (omega arith)
codeword_vanishes w c (suc i) from to =
    let p = codeword_parts w c in
    ap (λ w. horner octets 0 w (power (suc i))) p.2 ∙ message_vanishes p.0 p.1 i (omega arith)
