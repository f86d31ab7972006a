-- The bits of the header check sequence.
use Rattle.std.proofs.Common.{◌≡◌, ℕ, ◌+◌, ◌*◌, ◌%◌, ◌^◌, ◌<◌, ◌≤◌, Bool, true, false, not, List, [], ◌∷◌, map, length, get_or, take, drop, replicate, sym, refl, ap, ◌∙◌, ap₂, arith}
use mir.Val.{bool_byte}
use lib.Bits.{bit_or}
use Rattle.std.proofs.lemmas.List.{drop_more, drop_all, take-map, drop-map}
use Rattle.elements.specs.Bits.{bits as bit_ops}
use Rattle.polynomials.specs.Checks.{check}
use Rattle.format.specs.Sequences.{value}
use Rattle.format.specs.Bits.{bit_of, flag, line, octets_of}
use Rattle.format.specs.Header.{hcs, hcs_generator}
use Rattle.format.proofs.Registers.{gather_more}

abbrev pub sent : List Bool → List ℕ
sent ts = map (λ t. bit_of (not t)) ts

byte_of : (t : Bool) → bool_byte t ≡ bit_of t
byte_of true = refl
byte_of false = refl

bit_below : (t : Bool) → bool_byte t < 2
bit_below true = omega arith
bit_below false = omega arith

-- one inverted bit more of an octet
pub sent_more : (ts : List Bool) (k o whole : ℕ) → k < 8 → k < length ts → o < 2 ^ k → o + 2 ^ k * value (sent (drop k ts)) ≡ whole
    → (bit_or o (bool_byte (not (get_or ts k false)) * 2 ^ k % 2 ^ 8) < 2 ^ (k + 1))
    × (bit_or o (bool_byte (not (get_or ts k false)) * 2 ^ k % 2 ^ 8) + 2 ^ (k + 1) * value (sent (drop (k + 1) ts)) ≡ whole)
sent_more ts k o whole h inside low all =
    let b = bool_byte (not (get_or ts k false)) in
    let v = value (sent (drop (k + 1) ts)) in
    let split : value (sent (drop k ts)) ≡ b + 2 * v = ap (λ l. value (sent l)) (drop_more ts k false inside) ∙ ap (λ n. n + 2 * v) (sym (byte_of (not (get_or ts k false)))) in
    gather_more k o b v whole h low (bit_below (not (get_or ts k false))) (ap (λ n. o + 2 ^ k * n) (sym split) ∙ all)

pub sent_done : (ts : List Bool) (k o whole : ℕ) → length ts ≤ k → o + 2 ^ k * value (sent (drop k ts)) ≡ whole → o ≡ whole
sent_done ts k o whole h all = omega (arith, all, ap (λ l. 2 ^ k * value (sent l)) (drop_all k ts h))

-- the two octets that are sent, from the check's bits
pub hcs_from : (os : List ℕ) (ts : List Bool) (a b : ℕ) → ts ≡ check bit_ops hcs_generator (replicate 16 true) (map flag (line os))
    → a ≡ value (sent (take 8 ts)) → b ≡ value (sent (take 8 (drop 8 ts))) → a ∷ b ∷ [] ≡ hcs os
unfolding hcs octets_of
hcs_from os ts a b e ea eb =
    let invert = λ (t : Bool). bit_of (not t) in
    let first : value (sent (take 8 ts)) ≡ value (take 8 (sent ts)) = ap value (sym (take-map invert 8 ts)) in
    let second : value (sent (take 8 (drop 8 ts))) ≡ value (take 8 (drop 8 (sent ts))) =
    ap value (sym (take-map invert 8 (drop 8 ts)) ∙ ap (take 8) (sym (drop-map invert 8 ts))) in
    ap₂ (λ x y. x ∷ y ∷ []) (ea ∙ first) (eb ∙ second) ∙ ap (λ l. octets_of 2 (sent l)) e
