-- A mender that looks for the nearest codeword keeps the laws.
use Rattle.std.specs.Prelude.{◌≡◌, ℕ, ◌≤◌, true, false, List, length, Some, None, Option, refl}
use Rattle.std.proofs.Common.{subst, arith}
use Rattle.std.proofs.lemmas.Bool.{and_from, le-leb, both_ways}
use Rattle.elements.specs.Octets.{octets}
use Rattle.polynomials.specs.Differences.{differing}
use Rattle.coding.specs.Codewords.{Codeword}
use Rattle.coding.proofs.LeastDistance.{one_within}
use Rattle.words.specs.declared.change.Change.{Change}
use Rattle.words.specs.Coder.{word_long}
use Rattle.words.specs.Changes.{Difference}
use Rattle.mending.specs.Menders.{Mends, Found, Nearest}
use Rattle.words.proofs.ChangeCounts.{difference_count}

found_long : (t : ℕ) (w : List ℕ) (cs : List Change) → Found t w cs → word_long w ≡ true
found_long t w cs f = and_from _ _ (le-leb 17 (length w) (omega (arith, f.coded.long, f.long))) (le-leb (length w) 240 (omega (arith, f.coded.short, f.long)))

words_only : (t : ℕ) (w : List ℕ) (a : Option (List Change)) → Nearest t w a → word_long w ≡ false → a ≡ None
words_only t w None n no_word = refl
words_only t w (Some cs) f no_word = absurd (both_ways (word_long w) no_word (found_long t w cs f))

-- a codeword within t places is the one that was found
finds : (t : ℕ) → t ≤ 8 → (w c : List ℕ) (a : Option (List Change)) → Nearest t w a → Codeword c → length w ≡ length c
    → 1 ≤ differing octets w c → differing octets w c ≤ t → (cs : List Change) × (a ≡ Some cs) × Difference w c cs
finds t small w c None none code long some near = absurd (none c code long some near)
finds t small w c (Some cs) f code long some near =
    let far : differing octets w f.codeword ≤ 8 = omega (arith, difference_count w f.codeword cs f.difference, f.near) in
    let same = one_within w f.codeword c f.coded code f.long long far (omega arith) in
    (cs, refl, subst (λ d. Difference w d cs) same f.difference)

-- where the mender itself says that its reach is at most 8
pub nearest_mends_within : {M : Type 0} (t : ℕ) → (M → t ≤ 8) → Mends {M = M} (λ _. t) (λ s w a s'. Nearest t w a)
nearest_mends_within t small = record {
  small = small;
  stays = λ s w a s' n. refl;
  few = λ s w cs s' f. let near = small s in (f.some, omega (arith, f.near), f.adds);
  words_only = λ s w a s' n. words_only t w a n;
  finds = λ s w c a s' n h. finds t (small s) w c a n;
}

pub nearest_mends : {M : Type 0} (t : ℕ) → t ≤ 8 → Mends {M = M} (λ _. t) (λ s w a s'. Nearest t w a)
nearest_mends t small = nearest_mends_within t (λ s. small)
