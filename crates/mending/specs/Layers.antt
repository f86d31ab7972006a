-- Two menders, one after the other, keep the laws of a mender, with the larger of their reaches.
use Rattle.std.specs.Prelude.{◌≡◌, ℕ, ◌<◌, ◌≤◌, max, Bool, true, false, cond, List, length, Some, None, Option, ◌==◌, ◌≢◌, nat_lt}
use Rattle.std.proofs.Math.Path.{refl}
use Rattle.std.proofs.Common.{sym, ap, ap₂, subst, ◌∙◌, arith}
use Rattle.std.proofs.Math.Logic.{⊎_elim}
use Rattle.std.specs.List.{AllByRecursion as Each}
use Rattle.std.proofs.lemmas.Bool.{both_ways, cases_lt, ne_eqb, le-ltb, ltb-false}
use Rattle.elements.specs.Octets.{octets, Octet}
use Rattle.polynomials.specs.Differences.{differing}
use Rattle.coding.specs.Codewords.{Codeword}
use Rattle.coding.proofs.LeastDistance.{one_within}
use Rattle.words.specs.declared.change.Change.{Change}
use Rattle.words.specs.declared.fault.WordFault.{WordFault}
use Rattle.words.specs.declared.fault.WordFault.TheVariants.{Nothing, TooMany, Outside, Twice, Zero, NoCodeword}
use Rattle.words.specs.Coder.{is_codeword, word_long}
use Rattle.words.specs.Changes.{changed, inside, once, nonzero, fault_of, Difference, Adds}
use Rattle.mending.specs.Menders.{Rule, Mends, Second, Layered, accepted, sound}
use Rattle.words.proofs.Scans.{length_changed}
use Rattle.words.proofs.CodewordTest.{passes, codeword_passes}
use Rattle.words.proofs.ChangeCounts.{changed_near, difference_count, changed_octets}

-- what an accepted proposal has passed
pub record Passed (w : List ℕ) (cs : List Change) : Type 0 where
  pub few : length cs ≤ 8
  pub places : inside (length w) cs ≡ true
  pub apart : once cs ≡ true
  pub real : nonzero cs ≡ true
  pub coded : is_codeword (changed w cs) ≡ true

no_fault : (e : WordFault) → sound (Some e) ≢ true
no_fault e h = both_ways false refl h

chain : (a b p q r s : Bool) → sound (cond a (Some Nothing) (cond b (Some TooMany) (cond p (cond q (cond r (cond s None (Some NoCodeword)) (Some Zero)) (Some Twice)) (Some Outside)))) ≡ true
    → (b ≡ false) × (p ≡ true) × (q ≡ true) × (r ≡ true) × (s ≡ true)
chain true b p q r s h = absurd (both_ways false refl h)
chain false true p q r s h = absurd (both_ways false refl h)
chain false false false q r s h = absurd (both_ways false refl h)
chain false false true false r s h = absurd (both_ways false refl h)
chain false false true true false s h = absurd (both_ways false refl h)
chain false false true true true false h = absurd (both_ways false refl h)
chain false false true true true true h = (refl, refl, refl, refl, refl)

pub passed : (w : List ℕ) (cs : List Change) → sound (fault_of w cs) ≡ true → Passed w cs
passed w cs h =
    let t = chain (length cs == 0) (nat_lt 8 (length cs)) (inside (length w) cs) (once cs) (nonzero cs) (is_codeword (changed w cs)) h in
    record { few = ltb-false 8 (length cs) t.0; places = t.1; apart = t.2; real = t.3; coded = t.4 }

-- a difference from a codeword in 1 to 8 places is accepted
pub difference_accepted : (w c : List ℕ) (cs : List Change) → Codeword c → Difference w c cs → 1 ≤ differing octets w c → differing octets w c ≤ 8 → fault_of w cs ≡ None
difference_accepted w c cs code d some few =
    let count = difference_count w c cs d in
    let made : is_codeword (changed w cs) ≡ true = ap is_codeword d.turns ∙ codeword_passes c code in
    rw (ne_eqb (length cs) 0 (λ z. omega arith), le-ltb 8 (length cs) (omega arith), d.places, d.apart, d.real, made) refl

-- what is accepted is the difference from the one codeword within eight places
pub accepted_difference : (w c : List ℕ) (cs : List Change) → Each Octet w → Each Adds cs → Passed w cs → Codeword c → length w ≡ length c → differing octets w c ≤ 8 → Difference w c cs
accepted_difference w c cs h adds p code long near =
    let mended = passes (changed w cs) (changed_octets w cs h adds) p.coded in
    let same = one_within w (changed w cs) c mended code (sym (length_changed w cs)) long (omega (arith, changed_near w cs, p.few)) near in
    record { places = p.places; apart = p.apart; real = p.real; turns = same }

module _ {A B : Type 0} (ra : A → ℕ) (qa : Rule A) (rb : B → ℕ) (qb : Rule B) (ma : Mends ra qa) (mb : Mends rb qb) where
  stays_by : (t : Bool) (b b' : B) (w : List ℕ) (first r : Option (List Change)) → Second qb t b w first r b' → rb b' ≡ rb b
  stays_by true b b' w first r s = ap rb s.1
  stays_by false b b' w first r s = mb.stays b w r b' s

  pub layered_stays : (a a' : A) (b b' : B) (w : List ℕ) (r : Option (List Change)) → Layered qa qb a b w r a' b' → max (ra a') (rb b') ≡ max (ra a) (rb b)
  layered_stays a a' b b' w r l =
      ap₂ max (ma.stays a w l.proposed a' l.asked) (stays_by (accepted w l.proposed) b b' w l.proposed r l.then)

  few_by : (t : Bool) (a a' : A) (b b' : B) (w : List ℕ) (first : Option (List Change)) (cs : List Change) → qa a w first a' → Second qb t b w first (Some cs) b' → (1 ≤ length cs) × (length cs ≤ 16) × Each Adds cs
  few_by true a a' b b' w first cs asked s = ma.few a w cs a' (subst (λ (p : Option (List Change)). qa a w p a') (sym s.0) asked)
  few_by false a a' b b' w first cs asked s = mb.few b w cs b' s

  pub layered_few : (a a' : A) (b b' : B) (w : List ℕ) (cs : List Change) → Layered qa qb a b w (Some cs) a' b' → (1 ≤ length cs) × (length cs ≤ 16) × Each Adds cs
  layered_few a a' b b' w cs l = few_by (accepted w l.proposed) a a' b b' w l.proposed cs l.asked l.then

  pub layered_words : (a a' : A) (b b' : B) (w : List ℕ) (r : Option (List Change)) → Layered qa qb a b w r a' b' → word_long w ≡ false → r ≡ None
  layered_words a a' b b' w r l no_word =
      let none = ma.words_only a w l.proposed a' l.asked no_word in
      mb.words_only b w r b' (subst (λ (p : Option (List Change)). Second qb (accepted w p) b w p r b') none l.then) no_word

  Finds : List ℕ → List ℕ → Option (List Change) → Type 0
  Finds w c r = (cs : List Change) × (r ≡ Some cs) × Difference w c cs

  -- the first one's proposal is accepted
  finds_first : (a a' : A) (w c : List ℕ) (first r : Option (List Change)) → qa a w first a' → accepted w first ≡ true → r ≡ first → Each Octet w → Codeword c → length w ≡ length c → differing octets w c ≤ 8 → Finds w c r
  unfolding Finds
  finds_first a a' w c None r asked e same h code long near = absurd (both_ways false refl e)
  finds_first a a' w c (Some cs) r asked e same h code long near =
      (cs, same, accepted_difference w c cs h (ma.few a w cs a' asked).2 (passed w cs e) code long near)

  -- it is not, so the difference lies beyond the first one's reach
  beyond : (a a' : A) (w c : List ℕ) (first : Option (List Change)) → qa a w first a' → accepted w first ≡ false → Each Octet w → Codeword c → length w ≡ length c
      → 1 ≤ differing octets w c → differing octets w c ≤ ra a → ⊥
  beyond a a' w c first asked e h code long some near =
      let f = ma.finds a w c first a' asked h code long some near in
      let good : sound (fault_of w f.0) ≡ true = ap sound (difference_accepted w c f.0 code f.2 some (omega (arith, ma.small a))) in
      both_ways (accepted w first) e (ap (accepted w) f.1 ∙ good)

  finds_by : (t : Bool) (a a' : A) (b b' : B) (w c : List ℕ) (first r : Option (List Change)) → qa a w first a' → accepted w first ≡ t → Second qb t b w first r b'
      → Each Octet w → Codeword c → length w ≡ length c → 1 ≤ differing octets w c → differing octets w c ≤ max (ra a) (rb b) → Finds w c r
  unfolding Finds
  finds_by true a a' b b' w c first r asked e s h code long some near = finds_first a a' w c first r asked e s.0 h code long (omega (arith, ma.small a, mb.small b))
  finds_by false a a' b b' w c first r asked e s h code long some near =
      ⊎_elim
      (λ (over : ra a < differing octets w c). mb.finds b w c r b' s h code long some (omega arith))
      (λ (within : differing octets w c ≤ ra a). absurd (beyond a a' w c first asked e h code long some within))
      (cases_lt (ra a) (differing octets w c))

  pub layered_finds : (a a' : A) (b b' : B) (w c : List ℕ) (r : Option (List Change)) → Layered qa qb a b w r a' b'
      → Each Octet w → Codeword c → length w ≡ length c → 1 ≤ differing octets w c → differing octets w c ≤ max (ra a) (rb b)
      → (cs : List Change) × (r ≡ Some cs) × Difference w c cs
  unfolding Finds
  layered_finds a a' b b' w c r l = finds_by (accepted w l.proposed) a a' b b' w c l.proposed r l.asked refl l.then
