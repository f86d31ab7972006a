-- Two codewords differ in no place or in at least 17, so at most one lies within 8 places of a word; and a word with no syndrome is a codeword.
use Rattle.std.proofs.Common.{◌≡◌, ℕ, ◌+◌, ◌-◌, ◌≤◌, List, ◌++◌, length, take, drop, sym, ap, ◌∙◌, subst, ap₂, arith, length-append, length-drop, take-append-drop}
use native.Mathlib.Decide.{dec_le}
use Rattle.std.specs.List.{AllByRecursion as Each}
use Rattle.std.proofs.lemmas.List.{length-take-le}
use Rattle.std.proofs.ByRecursion.{All-take}
use Rattle.elements.specs.Octets.{octets, Octet, power}
use Rattle.polynomials.specs.Differences.{differing}
use Rattle.elements.specs.OctetLaws.{octets_laws}
use Rattle.coding.specs.Sums.{horner}
use Rattle.coding.specs.Decoder.{InCode}
use Rattle.coding.specs.Codewords.{parity, Codeword, ApartBy, OneWithin}
use Rattle.coding.proofs.DifferingLaws.{differing_swap, differing_triangle, differing_after}
use Rattle.coding.proofs.Distance.{least_distance}
use Rattle.coding.proofs.Carrier.{low, lift, low_lift, length_lift, part_path, low_horner, low_differing}
use Rattle.coding.proofs.OctetField.{octets_field, Proper, proper_ops, proper, alpha, alpha_is, alpha_nonzero, alpha_apart}
use Rattle.coding.proofs.ParityFacts.{length_parity, codeword_made, codeword_vanishes}

pub octets_swap : (w c : List ℕ) → differing octets w c ≡ differing octets c w
octets_swap = differing_swap octets_laws.compares

pub octets_triangle : (u v w : List ℕ) → length u ≡ length v → length v ≡ length w → differing octets u w ≤ differing octets u v + differing octets v w
octets_triangle = differing_triangle octets_laws.compares

-- a word of the code is one in the field of the octets
pub in_code : (r : ℕ) (w : List ℕ) (h : Each Octet w) → InCode octets power r w → InCode proper_ops alpha r (lift Octet w h)
in_code r w h z k from to =
    part_path octets_field _ _
    (low_horner octets_field proper_ops.zero (lift Octet w h) (alpha k) ∙ ap (λ u. horner octets 0 u (power k)) (low_lift Octet w h) ∙ z k from to)

pub differing_lift : (w c : List ℕ) (hw : Each Octet w) (hc : Each Octet c) → differing proper_ops (lift Octet w hw) (lift Octet c hc) ≡ differing octets w c
differing_lift w c hw hc = low_differing octets_field (lift Octet w hw) (lift Octet c hc) ∙ ap₂ (differing octets) (low_lift Octet w hw) (low_lift Octet c hc)

-- words of octets that vanish at r powers of alpha, and differ in at most r places, are the same
pub code_apart : (r : ℕ) (w c : List ℕ) → Each Octet w → Each Octet c → length w ≡ length c → length w ≤ 255
    → InCode octets power r w → InCode octets power r c → differing octets w c ≤ r → w ≡ c
code_apart r w c hw hc len fits zw zc near =
    let w' = lift Octet w hw in
    let c' = lift Octet c hc in
    let by_powers = λ (v : List Proper). subst (λ at. InCode proper_ops at r v) (sym alpha_is) in
    let equal = least_distance proper (alpha 1) 255 1 r alpha_nonzero alpha_apart w' c'
    (length_lift Octet w hw ∙ len ∙ sym (length_lift Octet c hc)) (rw (length_lift Octet w hw) fits)
    (by_powers w' (in_code r w hw zw)) (by_powers c' (in_code r c hc zc)) (rw (differing_lift w c hw hc) near) in
    sym (low_lift Octet w hw) ∙ ap low equal ∙ low_lift Octet c hc

pub same_codewords : (c d : List ℕ) → Codeword c → Codeword d → length c ≡ length d → differing octets c d ≤ 16 → c ≡ d
same_codewords c d hc hd len near =
    code_apart 16 c d hc.octets_all hd.octets_all len (omega arith) (codeword_vanishes c hc) (codeword_vanishes d hd) near

pub codewords_apart : ApartBy 17
codewords_apart c d hc hd len different =
    elim (dec_le 17 (differing octets c d)) [
      | yes far ↦ far
      | no near ↦ absurd (different (same_codewords c d hc hd len (omega arith)))
    ]

pub one_within : OneWithin 8
one_within w c d hc hd wc wd near_c near_d =
    same_codewords c d hc hd (sym wc ∙ wd) (omega (arith, octets_triangle c w d (sym wc) wd, octets_swap w c))

-- a word that vanishes at alpha^1 to alpha^16 is a codeword
pub codeword_from_zeros : (w : List ℕ) → Each Octet w → 17 ≤ length w → length w ≤ 240 → InCode octets power 16 w → Codeword w
codeword_from_zeros w h long short zeros =
    let n = length w - 16 in
    let m = take n w in
    let m_long : length m ≡ n = length-take-le n w (omega arith) in
    let c = m ++ parity m in
    let made = codeword_made m (All-take Octet n w h) (omega arith) (omega arith) in
    let c_long : length c ≡ length w = length-append m (parity m) ∙ omega (arith, length_parity m) in
    let near : differing octets w c ≤ 16 =
    subst (λ u. differing octets u c ≤ 16) (take-append-drop n w) (omega (arith, differing_after octets_laws.compares m (drop n w) (parity m), length-drop n w)) in
    subst Codeword (sym (code_apart 16 w c h made.octets_all (sym c_long) (omega arith) zeros (codeword_vanishes c made) near)) made
