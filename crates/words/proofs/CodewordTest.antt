-- The codeword test answers true just for codewords.
use Rattle.std.proofs.Common.{◌≡◌, ℕ, ◌+◌, ◌-◌, ◌≤◌, true, cond, eqb, leb, List, [], ◌∷◌, length, take, drop, sym, refl, ap, ◌∙◌, arith, length-drop}
use Rattle.std.specs.List.{AllByRecursion as Each}
use Rattle.std.proofs.lemmas.Bool.{and_parts, and_from, eqb-true, eq-eqb, leb-true, le-leb}
use Rattle.elements.specs.Octets.{octets, Octet}
use Rattle.polynomials.specs.Differences.{differing}
use Rattle.elements.specs.OctetLaws.{octets_laws}
use Rattle.coding.specs.Codewords.{parity, Codeword}
use Rattle.coding.proofs.DifferingLaws.{differing_none}
use Rattle.coding.proofs.ParityFacts.{length_parity}
use Rattle.words.specs.Coder.{word_long, is_codeword}

-- rows that are equal differ in no place
pub differing_same : (w : List ℕ) → differing octets w w ≡ 0
differing_same [] = refl
differing_same (x ∷ w) = ap (λ t. cond t 0 1 + differing octets w w) (eq-eqb x x refl) ∙ omega (arith, differing_same w)

pub word_length : (w : List ℕ) → word_long w ≡ true → (17 ≤ length w) × (length w ≤ 240)
word_length w e = let p = and_parts (leb 17 (length w)) (leb (length w) 240) e in (leb-true 17 (length w) p.0, leb-true (length w) 240 p.1)

pub passes : (w : List ℕ) → Each Octet w → is_codeword w ≡ true → Codeword w
passes w h e =
    let k = length w - 16 in
    let p = and_parts (word_long w) (eqb (differing octets (parity (take k w)) (drop k w)) 0) e in
    let long = word_length w p.0 in
    record {
      octets_all = h;
      long = long.0;
      short = long.1;
      ends = sym (differing_none octets_laws.compares (parity (take k w)) (drop k w)
          (length_parity (take k w) ∙ omega (arith, length-drop (length w - 16) w, long.0)) (eqb-true _ 0 p.1));
    }

pub codeword_passes : (w : List ℕ) → Codeword w → is_codeword w ≡ true
codeword_passes w c =
    let k = length w - 16 in
    and_from _ _ (and_from _ _ (le-leb 17 (length w) c.long) (le-leb (length w) 240 c.short))
    (eq-eqb _ 0 (ap (λ v. differing octets (parity (take k w)) v) c.ends ∙ differing_same (parity (take k w))))
