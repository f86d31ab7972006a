-- The changes that corrections at the places of a word come to.
use Rattle.std.specs.Prelude.{◌≡◌, ℕ, zero, suc, ◌-◌, cond, List, [], ◌∷◌, length, ◌==◌}
use Rattle.elements.specs.Octets.{octets, power}
use Rattle.coding.specs.Decoder.{correction, roots, syndrome}
use Rattle.words.specs.declared.change.Change.{Change}
use Rattle.menders.specs.Locators.{Locates}

-- what f says of the last k places of a word of n octets, by their locators; a place of which it says zero is left out
abbrev pub repairs : (ℕ → ℕ) → ℕ → ℕ → List Change
repairs f n zero = []
repairs f n (suc k) = cond (f (power k) == 0) (repairs f n k) (record { place = n - 1 - k; octet = f (power k) } ∷ repairs f n k)

-- the changes are what some locating vector calls for
pub record Proposed (t : ℕ) (w : List ℕ) (cs : List Change) : Type 0 where
  pub vector : List ℕ
  pub locates : Locates (syndrome octets power w) t vector
  pub changes : cs ≡ repairs (correction octets (syndrome octets power w) vector (roots octets power vector (length w))) (length w) (length w)
