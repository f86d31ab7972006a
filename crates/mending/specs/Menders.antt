-- What a mender means: its reach, its rule, and the laws that it owes.
use Rattle.std.specs.Prelude.{◌≡◌, ℕ, ◌-◌, ◌<◌, ◌≤◌, Bool, true, false, List, [], ◌∷◌, length, take, drop, replicate, Some, None, Option}
use Rattle.std.specs.List.{AllByRecursion as Each}
use Rattle.elements.specs.Octets.{octets, Octet}
use Rattle.polynomials.specs.Differences.{differing}
use Rattle.coding.specs.Codewords.{Codeword}
use Rattle.words.specs.declared.change.Change.{Change}
use Rattle.words.specs.declared.fault.WordFault.{WordFault}
use Rattle.words.specs.Coder.{word_long}
use Rattle.words.specs.Changes.{blank, Adds, fault_of, Difference}

-- how a mender stands before, the word, its answer, and how it stands afterwards
abbrev pub Rule : Type 0 → Type 1
Rule M = M → List ℕ → Option (List Change) → M → Type 0

-- the answer that a count and a buffer of changes stand for
abbrev pub answer : Option ℕ → List Change → Option (List Change)
answer None out = None
answer (Some n) out = Some (take n out)

-- a count is at most 16, and behind the proposal the buffer holds blank changes
abbrev pub Written : Option ℕ → List Change → Type 0
Written None out = out ≡ replicate 16 blank
Written (Some n) out = (n ≤ 16) × (drop n out ≡ replicate (16 - n) blank)

-- the laws of a mender
pub record Mends {M : Type 0} (reach : M → ℕ) (rule : Rule M) : Type 0 where
  -- the reach is at most 8, and no call changes it
  pub small : (s : M) → reach s ≤ 8
  pub stays : (s : M) (w : List ℕ) (a : Option (List Change)) (t : M) → rule s w a t → reach t ≡ reach s
  -- a proposal has 1 to 16 changes, each of an octet
  pub few : (s : M) (w : List ℕ) (cs : List Change) (t : M) → rule s w (Some cs) t → (1 ≤ length cs) × (length cs ≤ 16) × Each Adds cs
  -- what has not a word's length gets no proposal
  pub words_only : (s : M) (w : List ℕ) (a : Option (List Change)) (t : M) → rule s w a t → word_long w ≡ false → a ≡ None
  -- a word that differs from a codeword in 1 to reach places gets precisely that difference
  pub finds : (s : M) (w c : List ℕ) (a : Option (List Change)) (t : M) → rule s w a t → Each Octet w → Codeword c → length w ≡ length c
      → 1 ≤ differing octets w c → differing octets w c ≤ reach s → (cs : List Change) × (a ≡ Some cs) × Difference w c cs

-- the places stand in ascending order
abbrev pub Ascending : List Change → Type 0
Ascending [] = Unit {0}
Ascending (c ∷ []) = Unit {0}
Ascending (c ∷ (d ∷ cs)) = (c.place < d.place) × Ascending (d ∷ cs)

-- the rule of a mender that looks for a codeword in 1 to t places of the word: it proposes the difference, in ascending order,
-- or nothing where no such codeword is
pub record Found (t : ℕ) (w : List ℕ) (cs : List Change) : Type 0 where
  pub codeword : List ℕ
  pub coded : Codeword codeword
  pub long : length w ≡ length codeword
  pub some : 1 ≤ length cs
  pub near : length cs ≤ t
  pub adds : Each Adds cs
  pub difference : Difference w codeword cs
  pub ascending : Ascending cs

abbrev pub Nearest : ℕ → List ℕ → Option (List Change) → Type 0
Nearest t w (Some cs) = Found t w cs
Nearest t w None = (c : List ℕ) → Codeword c → length w ≡ length c → 1 ≤ differing octets w c → differing octets w c ≤ t → ⊥

-- whether an answer is accepted
abbrev pub sound : Option WordFault → Bool
sound None = true
sound (Some e) = false

abbrev pub accepted : List ℕ → Option (List Change) → Bool
accepted w None = false
accepted w (Some cs) = sound (fault_of w cs)

-- what the second of two menders does, by whether the first one's answer is accepted
abbrev pub Second : {B : Type 0} → Rule B → Bool → B → List ℕ → Option (List Change) → Option (List Change) → B → Type 0
Second rule true s w first a t = (a ≡ first) × (t ≡ s)
Second rule false s w first a t = rule s w a t

-- the rule of two menders, one asked after the other: `proposed` is what the first answered
pub record Layered {A B : Type 0} (first : Rule A) (second : Rule B) (a : A) (b : B) (w : List ℕ) (r : Option (List Change)) (a' : A) (b' : B) : Type 0 where
  pub proposed : Option (List Change)
  pub asked : first a w proposed a'
  pub then : Second second (accepted w proposed) b w proposed r b'
