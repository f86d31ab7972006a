-- Lines: which are passed over, and what of the others is read.
use Rattle.std.specs.Prelude.{◌≡◌, ℕ, ◌+◌, ◌<◌, Bool, true, false, cond, ◌&&◌, List, [], ◌∷◌, ◌==◌, slice_index}

-- 35 is the number sign, and 32 the space
abbrev pub passed_over : List ℕ → Bool
passed_over [] = true
passed_over (c ∷ cs) = c == 35

-- whether a space and a number sign stand at a place
abbrev pub begins_comment : List ℕ → ℕ → Bool
begins_comment line i = slice_index line i == 32 && slice_index line (i + 1) == 35

-- they stand at no place below n
abbrev pub NoneBelow : ℕ → List ℕ → Type 0
NoneBelow n line = (k : ℕ) → k < n → begins_comment line k ≡ false

-- a line up to the first space that a number sign follows
abbrev pub uncommented : List ℕ → List ℕ
uncommented [] = []
uncommented (c ∷ cs) = cond (c == 32 && slice_index cs 0 == 35) [] (c ∷ uncommented cs)
