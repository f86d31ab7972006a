-- A text cut into pieces at every octet of one value.
use Rattle.std.specs.Prelude.{ℕ, cond, List, [], ◌∷◌, ◌++◌, ◌==◌}

-- octets put in front of the first piece
abbrev pub glue : List ℕ → List (List ℕ) → List (List ℕ)
glue xs [] = []
glue xs (p ∷ ps) = (xs ++ p) ∷ ps

abbrev pub pieces : ℕ → List ℕ → List (List ℕ)
pieces by [] = [] ∷ []
pieces by (c ∷ cs) = cond (c == by) ([] ∷ pieces by cs) (glue (c ∷ []) (pieces by cs))
