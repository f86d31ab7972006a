-- The first bad chip is the first that a test finds.
use Rattle.std.proofs.Common.{◌≡◌, ℕ, ◌+◌, ltb, List, [], ◌∷◌, refl, ◌∙◌, arith}
use Rattle.std.specs.List.{position, position_from}
use Rattle.std.proofs.lemmas.Iterator.Adapters.{position_from-zero}
use Rattle.format.specs.Reading.{bad_from}
use Rattle.windows.specs.Parts.{first_bad}

bad_position_from : (i : ℕ) (w : List ℕ) → position_from (λ c. ltb 1 c) i w ≡ bad_from i w
bad_position_from i [] = refl
bad_position_from i (c ∷ w) = grind (arith, bad_position_from (i + 1) w)

pub bad_position : (w : List ℕ) → position (λ c. ltb 1 c) w ≡ first_bad w
bad_position w = position_from-zero (λ c. ltb 1 c) w ∙ bad_position_from 0 w
