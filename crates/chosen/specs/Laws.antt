-- Menders that are chosen keep the laws of a mender.
use Rattle.std.specs.Prelude.{◌≡◌, ℕ, ◌≤◌, false, List, length, Some, None, Option, ◌≢◌}
use Rattle.std.proofs.Common.{ap, arith, lit≤}
use Rattle.std.specs.List.{AllByRecursion as Each}
use Rattle.elements.specs.Octets.{octets, Octet}
use Rattle.polynomials.specs.Differences.{differing}
use Rattle.coding.specs.Codewords.{Codeword}
use Rattle.words.specs.declared.change.Change.{Change}
use Rattle.words.specs.Coder.{word_long}
use Rattle.words.specs.Changes.{Adds, Difference}
use Rattle.mending.specs.Menders.{Rule, Mends, Nearest}
use Rattle.mending.specs.Layers.{layered_stays, layered_few, layered_words, layered_finds}
use Rattle.menders.specs.MenderLaws.{nearest_mends}
use Rattle.chosen.specs.declared.leaf.Leaf.{Leaf}
use Rattle.chosen.specs.declared.leaf.Leaf.TheVariants.{Still, Single, Full}
use Rattle.chosen.specs.declared.pile.Pile.{Pile}
use Rattle.chosen.specs.declared.pile.Pile.TheVariants.{One, Two}
use Rattle.chosen.specs.Leaves.{leaf_reach, LeafAnswers, LeafRule}
use Rattle.chosen.specs.Piles.{pile_reach, PileRule}

single : Mends {M = Leaf} (λ _. 1) (λ s w a t. Nearest 1 w a)
single = nearest_mends 1 (lit≤ tt)

full : Mends {M = Leaf} (λ _. 8) (λ s w a t. Nearest 8 w a)
full = nearest_mends 8 (lit≤ tt)

leaf_small : (s : Leaf) → leaf_reach s ≤ 8
leaf_small Still = lit≤ tt
leaf_small Single = lit≤ tt
leaf_small Full = lit≤ tt

some_none : {X : Type 0} (x : X) → Some x ≢ None
some_none x e = let z : ◌≡◌ {A = ℕ} 0 1 = cc in omega arith

leaf_few : (s : Leaf) (w : List ℕ) (cs : List Change) → LeafAnswers s w (Some cs) → (1 ≤ length cs) × (length cs ≤ 16) × Each Adds cs
leaf_few Still w cs e = absurd (some_none cs e)
leaf_few Single w cs n = single.few Single w cs Single n
leaf_few Full w cs n = full.few Full w cs Full n

leaf_words : (s : Leaf) (w : List ℕ) (a : Option (List Change)) → LeafAnswers s w a → word_long w ≡ false → a ≡ None
leaf_words Still w a e no_word = e
leaf_words Single w a n no_word = single.words_only Single w a Single n no_word
leaf_words Full w a n no_word = full.words_only Full w a Full n no_word

leaf_finds : (s : Leaf) (w c : List ℕ) (a : Option (List Change)) → LeafAnswers s w a → Each Octet w → Codeword c → length w ≡ length c
    → 1 ≤ differing octets w c → differing octets w c ≤ leaf_reach s → (cs : List Change) × (a ≡ Some cs) × Difference w c cs
leaf_finds Still w c a e h code long some near = absurd (omega arith)
leaf_finds Single w c a n h code long some near = single.finds Single w c a Single n h code long some near
leaf_finds Full w c a n h code long some near = full.finds Full w c a Full n h code long some near

pub leaf_mends : Mends leaf_reach LeafRule
leaf_mends = record {
  small = leaf_small;
  stays = λ s w a t r. ap leaf_reach r.1;
  few = λ s w cs t r. leaf_few s w cs r.0;
  words_only = λ s w a t r. leaf_words s w a r.0;
  finds = λ s w c a t r. leaf_finds s w c a r.0;
}

module _ {M : Type 0} (reach : M → ℕ) (rule : Rule M) (m : Mends reach rule) where
  pile_small : (s : Pile M) → pile_reach reach s ≤ 8
  pile_small (One a) = m.small a
  pile_small (Two p) = omega (arith, m.small p.first, m.small p.second)

  pile_stays : (s : Pile M) (w : List ℕ) (a : Option (List Change)) (t : Pile M) → PileRule rule s w a t → pile_reach reach t ≡ pile_reach reach s
  pile_stays (One x) w a (One y) r = m.stays x w a y r
  pile_stays (One x) w a (Two q) r = absurd r
  pile_stays (Two p) w a (One y) r = absurd r
  pile_stays (Two p) w a (Two q) r = layered_stays reach rule reach rule m m p.first q.first p.second q.second w a r

  pile_few : (s : Pile M) (w : List ℕ) (cs : List Change) (t : Pile M) → PileRule rule s w (Some cs) t → (1 ≤ length cs) × (length cs ≤ 16) × Each Adds cs
  pile_few (One x) w cs (One y) r = m.few x w cs y r
  pile_few (One x) w cs (Two q) r = absurd r
  pile_few (Two p) w cs (One y) r = absurd r
  pile_few (Two p) w cs (Two q) r = layered_few reach rule reach rule m m p.first q.first p.second q.second w cs r

  pile_words : (s : Pile M) (w : List ℕ) (a : Option (List Change)) (t : Pile M) → PileRule rule s w a t → word_long w ≡ false → a ≡ None
  pile_words (One x) w a (One y) r no_word = m.words_only x w a y r no_word
  pile_words (One x) w a (Two q) r no_word = absurd r
  pile_words (Two p) w a (One y) r no_word = absurd r
  pile_words (Two p) w a (Two q) r no_word = layered_words reach rule reach rule m m p.first q.first p.second q.second w a r no_word

  pile_finds : (s : Pile M) (w c : List ℕ) (a : Option (List Change)) (t : Pile M) → PileRule rule s w a t → Each Octet w → Codeword c → length w ≡ length c
      → 1 ≤ differing octets w c → differing octets w c ≤ pile_reach reach s → (cs : List Change) × (a ≡ Some cs) × Difference w c cs
  pile_finds (One x) w c a (One y) r h code long some near = m.finds x w c a y r h code long some near
  pile_finds (One x) w c a (Two q) r h code long some near = absurd r
  pile_finds (Two p) w c a (One y) r h code long some near = absurd r
  pile_finds (Two p) w c a (Two q) r h code long some near = layered_finds reach rule reach rule m m p.first q.first p.second q.second w c a r h code long some near

  pub pile_mends : Mends (pile_reach reach) (PileRule rule)
  pile_mends = record { small = pile_small; stays = pile_stays; few = pile_few; words_only = pile_words; finds = pile_finds }
