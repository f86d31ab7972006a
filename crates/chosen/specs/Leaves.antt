-- The reach and the rule of a known mender.
use Rattle.std.specs.Prelude.{◌≡◌, ℕ, List, None, Option}
use Rattle.words.specs.declared.change.Change.{Change}
use Rattle.mending.specs.Menders.{Nearest}
use Rattle.chosen.specs.declared.leaf.Leaf.{Leaf}
use Rattle.chosen.specs.declared.leaf.Leaf.TheVariants.{Still, Single, Full}

abbrev pub leaf_reach : Leaf → ℕ
leaf_reach Still = 0
leaf_reach Single = 1
leaf_reach Full = 8

-- which answers it gives to a word
abbrev pub LeafAnswers : Leaf → List ℕ → Option (List Change) → Type 0
LeafAnswers Still w a = a ≡ None
LeafAnswers Single w a = Nearest 1 w a
LeafAnswers Full w a = Nearest 8 w a

-- and it stays what it was
abbrev pub LeafRule : Leaf → List ℕ → Option (List Change) → Leaf → Type 0
LeafRule s w a t = LeafAnswers s w a × (t ≡ s)
