-- In how many places two rows differ.
use Rattle.std.specs.Prelude.{ℕ, ◌+◌, cond, List, [], ◌∷◌}
use Rattle.elements.specs.Laws.{Operations}

-- counted up to the end of the shorter row
abbrev pub differing : {E : Type 0} → Operations E → List E → List E → ℕ
differing o [] b = 0
differing o (x ∷ a) [] = 0
differing o (x ∷ a) (y ∷ b) = cond (o.same x y) 0 1 + differing o a b
