-- What the slicer takes from chips.
use Rattle.std.specs.Prelude.{ℕ, ◌*◌, ◌%◌, ◌<◌, List, map}
use Rattle.format.specs.Sequences.{drawn}
use Rattle.format.specs.Frame.{added}
use Rattle.format.specs.Reading.{majorities}

-- k bits from 16 chips each, with the sequence from a register on taken off
unfoldable pub bits_from : ℕ → List ℕ → ℕ → List ℕ
bits_from k chips r = majorities k (added chips (drawn (16 * k) r))

-- a chip is 0 or 1
abbrev pub Chip : ℕ → Type 0
Chip c = c < 2

-- chips with every bit but the lowest masked out
unfoldable pub masked : List ℕ → List ℕ
masked chips = map (λ c. c % 2) chips
