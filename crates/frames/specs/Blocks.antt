-- The bits that a block carries.
use Rattle.std.specs.Prelude.{ℕ, ◌*◌, List, [], ◌∷◌, ◌++◌, length, take, drop}
use Rattle.format.specs.Sequences.{drawn}
use Rattle.format.specs.Bits.{line}
use Rattle.format.specs.Payload.{word_count, stuff_count, coded}

-- those of block b, from 0, and behind them its pilots
abbrev pub block_bits : ℕ → List ℕ → List ℕ
block_bits b bits = take 508 (drop (508 * b) bits) ++ (1 ∷ 0 ∷ 1 ∷ 0 ∷ [])

-- the bits that the blocks carry: the words of a scrambled body, and then stuff bits, from a register on
abbrev pub carried : List ℕ → ℕ → List ℕ
carried body r = line (coded (word_count (length body)) body) ++ drawn (stuff_count (length body)) r
