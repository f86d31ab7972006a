-- Octets as bits on the line, the lowest first.
use Rattle.std.specs.Prelude.{ℕ, zero, suc, ◌/◌, ◌%◌, Bool, cond, List, [], ◌∷◌, ◌++◌, take, drop, ◌==◌}
use Rattle.format.specs.Sequences.{value}

-- the n lowest bits of a number
unfoldable pub bits : ℕ → ℕ → List ℕ
bits zero o = []
bits (suc n) o = o % 2 ∷ bits n (o / 2)

-- the bits of octets in line order
unfoldable pub line : List ℕ → List ℕ
line [] = []
line (o ∷ os) = bits 8 o ++ line os

-- n octets from bits in line order
unfoldable pub octets_of : ℕ → List ℕ → List ℕ
octets_of zero bs = []
octets_of (suc n) bs = value (take 8 bs) ∷ octets_of n (drop 8 bs)

-- a bit as an element, and back
abbrev pub flag : ℕ → Bool
flag b = b == 1

abbrev pub bit_of : Bool → ℕ
bit_of t = cond t 1 0
