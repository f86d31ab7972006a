-- What a mender that keeps its laws makes of words: what is mended is a codeword near the word read, and a codeword within the reach is found.
use Rattle.std.proofs.Common.{◌≡◌, ℕ, suc, ◌+◌, ◌≤◌, Bool, true, false, ◌≢◌, List, [], ◌∷◌, length, Some, None, Ok, Err, Option, Result, sym, refl, ap, ◌∙◌, subst, subst₂, arith}
use Rattle.std.specs.List.{AllZip, AllByRecursion as Each}
use Rattle.std.proofs.lemmas.Bool.{both_ways}
use Rattle.elements.specs.Octets.{octets, Octet}
use Rattle.polynomials.specs.Differences.{differing}
use Rattle.elements.specs.OctetLaws.{octets_laws}
use Rattle.coding.specs.Codewords.{Codeword}
use Rattle.coding.proofs.DifferingLaws.{differing_none}
use Rattle.coding.proofs.LeastDistance.{one_within}
use Rattle.words.specs.declared.change.Change.{Change}
use Rattle.words.specs.declared.fault.WordFault.{WordFault}
use Rattle.words.specs.Coder.{is_codeword}
use Rattle.words.specs.Changes.{changed, fault_of, mended_by}
use Rattle.mending.specs.Menders.{Rule, Mends, sound}
use Rattle.mending.specs.Mending.{counted_by, counted, settled}
use Rattle.words.proofs.Scans.{length_changed}
use Rattle.words.proofs.CodewordTest.{differing_same, passes, codeword_passes}
use Rattle.words.proofs.ChangeCounts.{changed_count, changed_octets}
use Rattle.mending.specs.Layers.{passed, difference_accepted}
use Rattle.account.specs.Asks.{Asked, Chain, OneBy, One, Unmended, added, After, Words}

-- v is a codeword of the length of w that differs from it in at most r places
pub record Near (r : ℕ) (w v : List ℕ) : Type 0 where
  pub coded : Codeword v
  pub long : length w ≡ length v
  pub near : differing octets w v ≤ r

-- in how many places words differ from others, one by one
abbrev pub apart : List (List ℕ) → List (List ℕ) → ℕ
apart [] vs = 0
apart (w ∷ ws) [] = 0
apart (w ∷ ws) (v ∷ vs) = differing octets w v + apart ws vs

-- what words come to: where all are mended, each is near; and they are, where a codeword is near each
pub record AllMended (reach : ℕ) (ws : List (List ℕ)) (r : Result ℕ Unmended) (vs : List (List ℕ)) : Type 0 where
  pub right : (n : ℕ) → r ≡ Ok n → AllZip (Near 8) ws vs × (n ≡ apart ws vs)
  pub finds : (cs : List (List ℕ)) → AllZip (Near reach) ws cs → (n : ℕ) × (r ≡ Ok n)

one_more : (reach j : ℕ) (w v : List ℕ) (ws us : List (List ℕ)) (more : Result ℕ Unmended)
    → Near 8 w v → j ≡ differing octets w v → AllMended reach ws more us → AllMended reach (w ∷ ws) (added j more) (v ∷ us)
one_more reach j w v ws us (Ok m) near e all =
    let rest = all.right m refl in
    record { right = λ n z. ((near, rest.0), (let s : j + m ≡ n = cc in omega arith)); finds = λ cs h. (j + m, refl) }
one_more reach j w v ws us (Err f) near e all =
    record {
      right = λ n z. let y : ◌≡◌ {A = ℕ} 0 1 = cc in absurd (omega arith);
      finds = elim [
        | [] ↦ λ h. absurd h
        | c ∷ cs ↦ λ h. (0, cc (all.finds cs h.1).1)
      ];
    }

module _ {M : Type 0} (reach : M → ℕ) (rule : Rule M) (laws : Mends reach rule) where
  -- ---- one word

  -- what one word comes to: the mender goes on with the same reach, what is mended is near, and a codeword within the reach is found
  pub record Mended (s t : M) (w : List ℕ) (n : Result ℕ WordFault) (v : List ℕ) (rest : List Asked) : Type 0 where
    pub next : M
    pub chain : Chain rule next rest t
    pub kept : reach next ≡ reach s
    pub right : (k : ℕ) → n ≡ Ok k → Near 8 w v × (k ≡ differing octets w v)
    pub finds : (c : List ℕ) → Near (reach s) w c → (k : ℕ) × (n ≡ Ok k) × (v ≡ c)

  module _ (s u : M) (w : List ℕ) (ok : Each Octet w) where
    accepted : (cs : List Change) (o : Option WordFault) → fault_of w cs ≡ o → rule s w (Some cs) u → (k : ℕ) → counted_by o (length cs) ≡ Ok k
        → Near 8 w (mended_by o w cs) × (k ≡ differing octets w (mended_by o w cs))
    accepted cs (Some e) q asked k z = let z : ◌≡◌ {A = ℕ} 0 1 = cc in absurd (omega arith)
    accepted cs None q asked k z =
        let p = passed w cs (ap sound q) in
        let count = changed_count w cs p.places p.apart p.real in
        let coded = passes (changed w cs) (changed_octets w cs ok (laws.few s w cs u asked).2) p.coded in
        (record { coded = coded; long = sym (length_changed w cs); near = omega (arith, p.few) }, cc)

    judged : (a : Option (List Change)) → rule s w a u → (k : ℕ) → counted w a ≡ Ok k → Near 8 w (settled w a) × (k ≡ differing octets w (settled w a))
    judged None asked k z = let z : ◌≡◌ {A = ℕ} 0 1 = cc in absurd (omega arith)
    judged (Some cs) asked k z = accepted cs (fault_of w cs) refl asked k z

    found : (a : Option (List Change)) → rule s w a u → is_codeword w ≡ false → (c : List ℕ) → Near (reach s) w c → (k : ℕ) × (counted w a ≡ Ok k) × (settled w a ≡ c)
    found a asked e c n =
        let apart : differing octets w c ≢ 0 =
        λ z. both_ways (is_codeword w) e (ap is_codeword (differing_none octets_laws.compares w c n.long z) ∙ codeword_passes c n.coded) in
        let few = laws.small s in
        let f = laws.finds s w c a u asked ok n.coded n.long (omega arith) n.near in
        let none = difference_accepted w c f.0 n.coded f.2 (omega arith) (omega (arith, n.near)) in
        (length f.0, ap (counted w) f.1 ∙ ap (λ o. counted_by o (length f.0)) none, ap (settled w) f.1 ∙ ap (λ o. mended_by o w f.0) none ∙ f.2.turns)

  module _ (s t : M) (w : List ℕ) (ok : Each Octet w) (asks : List Asked) (n : Result ℕ WordFault) (v : List ℕ) (rest : List Asked) where
    mended_by_test : (b : Bool) → is_codeword w ≡ b → OneBy b w asks n v rest → Chain rule s asks t → Mended s t w n v rest
    mended_by_test true e one chain =
        let code = passes w ok e in
        let none = differing_same w in
        record {
          next = s;
          chain = subst (λ l. Chain rule s l t) one.2 chain;
          kept = refl;
          right = λ k z. subst (λ x. Near 8 w x × (k ≡ differing octets w x)) (sym one.1) (record { coded = code; long = refl; near = omega arith }, cc);
          finds = λ c near. (0, one.0, one.1 ∙ one_within w w c code near.coded refl near.long (omega arith) (omega (arith, laws.small s, near.near)));
        }
    mended_by_test false e one chain =
        let (u, asked, on) = subst (λ l. Chain rule s l t) one.1 chain in
        record {
          next = u;
          chain = on;
          kept = laws.stays s w one.0 u asked;
          right = λ k z. subst (λ x. Near 8 w x × (k ≡ differing octets w x)) (sym one.3) (judged s u w ok one.0 asked k (sym one.2 ∙ z));
          finds = λ c near. let f = found s u w ok one.0 asked e c near in (f.0, one.2 ∙ f.1, one.3 ∙ f.2);
        }

    pub mended_one : One w asks n v rest → Chain rule s asks t → Mended s t w n v rest
    mended_one = mended_by_test (is_codeword w) refl

  -- ---- words in line order

  after_one : (s t : M) (w v : List ℕ) (ws vs : List (List ℕ)) (k : ℕ) (one : Result ℕ WordFault) (r : Result ℕ Unmended) (mid rest : List Asked) → Mended s t w one v mid
      → ((more : Result ℕ Unmended) (us : List (List ℕ)) → Words (suc k) ws mid more us rest → AllMended (reach s) ws more us)
      → After (Words (suc k) ws) one k mid r v vs rest → AllMended (reach s) (w ∷ ws) r vs
  after_one s t w v ws vs k (Ok j) r mid rest m all a =
      let (more, us, next, er, ev) = a in
      let n = m.right j refl in
      subst₂ (AllMended (reach s) (w ∷ ws)) (sym er) (sym ev) (one_more (reach s) j w v ws us more n.0 n.1 (all more us next))
  after_one s t w v ws vs k (Err f) r mid rest m all a =
      record {
        right = λ n z. let y : ◌≡◌ {A = ℕ} 0 1 = cc in absurd (omega arith);
        finds = elim [
          | [] ↦ λ h. absurd h
          | c ∷ cs ↦ λ h. let y : ◌≡◌ {A = ℕ} 0 1 = cc (m.finds c h.0).1 in absurd (omega arith)
        ];
      }

  pub mended_all : (ws : List (List ℕ)) (k : ℕ) (s t : M) (asks : List Asked) (r : Result ℕ Unmended) (vs : List (List ℕ)) (rest : List Asked) → Each (Each Octet) ws
      → Words k ws asks r vs rest → Chain rule s asks t → AllMended (reach s) ws r vs
  mended_all [] k s t asks r vs rest ok x chain =
      subst₂ (AllMended (reach s) []) (sym x.0) (sym x.1) (record { right = λ n z. (tt, cc); finds = λ cs h. (0, refl) })
  mended_all (w ∷ ws) k s t asks r vs rest ok x chain =
      let (one, v, mid, here, a) = x in
      let m = mended_one s t w ok.0 asks one v mid here chain in
      after_one s t w v ws vs k one r mid rest m
      (λ more us next. subst (λ n. AllMended n ws more us) m.kept (mended_all ws (suc k) m.next t mid more us rest ok.1 next m.chain)) a
