-- The lines of a text.
use Rattle.std.specs.Prelude.{ℕ, ◌+◌, ◌-◌, cond, List, [], ◌∷◌, length, take, drop, ◌==◌, slice_index}

-- the place of the first such octet, the first octet at i; where there is none, the place behind the last
abbrev pub place_from : ℕ → ℕ → List ℕ → ℕ
place_from i x [] = i
place_from i x (o ∷ os) = cond (o == x) i (place_from (i + 1) x os)

abbrev pub place : ℕ → List ℕ → ℕ
place x text = place_from 0 x text

-- what stands before the first such octet, and what stands behind it
unfoldable pub before : ℕ → List ℕ → List ℕ
before x text = take (place x text) text

unfoldable pub behind : ℕ → List ℕ → List ℕ
behind x text = drop (place x text + 1) text

-- a line without a carriage return at its end
unfoldable pub without_return : List ℕ → List ℕ
without_return line = cond (slice_index line (length line - 1) == 13) (take (length line - 1) line) line

-- the first line
unfoldable pub line_of : List ℕ → List ℕ
line_of text = without_return (before 10 text)
