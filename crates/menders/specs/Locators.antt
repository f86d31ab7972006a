-- What elimination leaves: a vector that locates the wrong places.
use Rattle.std.specs.Prelude.{◌≡◌, ℕ, suc, ◌<◌, List, length, slice_index}
use Rattle.std.specs.List.{AllByRecursion as Each}
use Rattle.elements.specs.Octets.{octets, Octet}
use Rattle.coding.specs.Sums.{Zero, slide}

-- a row's entries, and zero past its end
abbrev pub entries : List ℕ → ℕ → ℕ
entries xs i = slice_index xs i

-- a vector of t + 1 octets, not all zero, that solves the t equations of the syndromes s
pub record Locates (s : ℕ → ℕ) (t : ℕ) (v : List ℕ) : Type 0 where
  pub long : length v ≡ suc t
  pub proper : Each Octet v
  pub some : ¬ (Each (Zero octets) v)
  pub solves : (k : ℕ) → k < t → slide octets v s k ≡ 0
