-- A proposal that is accepted is the difference to the nearest codeword; and where one is within t places, the proposal is accepted.
use Rattle.std.proofs.Common.{◌≡◌, ℕ, ◌≤◌, Bool, true, false, cond, eqb, List, length, is_ok, Some, None, Option, sym, refl, ap, ◌∙◌, subst, arith}
use Rattle.std.specs.List.{AllByRecursion as Each}
use Rattle.std.proofs.lemmas.Bool.{both_ways, eqb-false}
use Rattle.elements.specs.Octets.{octets, Octet, power}
use Rattle.polynomials.specs.Differences.{differing}
use Rattle.coding.specs.Codewords.{Codeword}
use Rattle.coding.specs.Decoder.{correction, roots, syndrome, correct_by}
use Rattle.coding.proofs.OctetDecoder.{corrects, length_correct, correct_octets}
use Rattle.words.specs.declared.change.Change.{Change}
use Rattle.words.specs.declared.fault.WordFault.{WordFault}
use Rattle.words.specs.declared.fault.WordFault.TheVariants.{Nothing}
use Rattle.words.specs.Coder.{is_codeword}
use Rattle.words.specs.Changes.{fault_of, verdict, Difference, Adds}
use Rattle.mending.specs.Menders.{Ascending, Found, sound}
use Rattle.words.proofs.CodewordTest.{passes}
use Rattle.words.proofs.ChangeCounts.{difference_count}
use Rattle.mending.specs.Layers.{passed, difference_accepted}
use Rattle.menders.specs.Repairs.{Proposed}
use Rattle.menders.proofs.Repairing.{repairs_difference, repairs_add, repairs_ascending}

-- an answer of Ok is one of no fault
pub ok_sound : (o : Option WordFault) → is_ok (verdict o) ≡ sound o
ok_sound None = refl
ok_sound (Some e) = refl

some_there : (b : Bool) (rest : Option WordFault) → sound (cond b (Some Nothing) rest) ≡ true → b ≡ false
some_there true rest e = absurd (both_ways false refl e)
some_there false rest e = refl

some_changes : (w : List ℕ) (cs : List Change) → sound (fault_of w cs) ≡ true → 1 ≤ length cs
some_changes w cs e = let apart = eqb-false (length cs) 0 (some_there (eqb (length cs) 0) _ e) in omega arith

module _ (t : ℕ) (w : List ℕ) (cs : List Change) (p : Proposed t w cs) (h : Each Octet w) where
  abbrev corrected : List ℕ
  corrected = correct_by octets power p.vector w

  abbrev f : ℕ → ℕ
  f = correction octets (syndrome octets power w) p.vector (roots octets power p.vector (length w))

  corrected_octets : Each Octet corrected
  corrected_octets = correct_octets p.vector w p.locates.proper h

  difference : Difference w corrected cs
  difference = subst (Difference w corrected) (sym p.changes) (repairs_difference f w)

  pub proposed_found : length cs ≤ t → sound (fault_of w cs) ≡ true → Found t w cs
  proposed_found near ok = record {
    codeword = corrected;
    coded = passes corrected corrected_octets (ap is_codeword (sym difference.turns) ∙ (passed w cs ok).coded);
    long = sym (length_correct p.vector w);
    some = some_changes w cs ok;
    near = near;
    adds = subst (Each Adds) (sym p.changes) (repairs_add f (length w) w h corrected_octets);
    difference = difference;
    ascending = subst Ascending (sym p.changes) (repairs_ascending f (length w) (length w) (omega arith));
  }

  module _ (small : t ≤ 8) (c : List ℕ) (code : Codeword c) (long : length w ≡ length c) (some : 1 ≤ differing octets w c) (near : differing octets w c ≤ t) where
    to_codeword : Difference w c cs
    to_codeword =
        let l = p.locates in
        subst (λ d. Difference w d cs) (corrects t small w c p.vector h l.proper code long near l.long l.some l.solves) difference

    pub proposed_accepted : sound (fault_of w cs) ≡ true
    proposed_accepted = ap sound (difference_accepted w c cs code to_codeword some (omega arith))

    pub proposed_near : length cs ≤ t
    proposed_near = omega (arith, difference_count w c cs to_codeword)
