-- The sum of chips with a sequence added.
use Rattle.std.proofs.Common.{◌≡◌, ℕ, zero, suc, ◌+◌, ◌<◌, List, [], ◌∷◌, length, get_or, take, ap, ◌∙◌, suc-add, arith}
use lib.Bits.{bit_xor}
use Rattle.format.specs.Sequences.{next, advanced, after, drawn}
use Rattle.format.specs.Frame.{added}
use Rattle.format.specs.Reading.{ones}

-- one chip more
pub sum_step : (chips : List ℕ) (i r : ℕ) → i < length chips
    → ones (added (take (i + 1) chips) (drawn (i + 1) r)) ≡ ones (added (take i chips) (drawn i r)) + bit_xor (get_or chips i 0) (next (after i r))
unfolding ones added drawn after
sum_step [] i r h = absurd (omega arith)
sum_step (c ∷ chips) zero r h = omega arith
sum_step (c ∷ chips) (suc i) r h =
    ap (λ n. ones (added (take n (c ∷ chips)) (drawn n r))) (suc-add i 1)
    ∙ omega (arith, sum_step chips i (advanced r) (omega arith))
