-- The check of a message: what a division by a generator leaves.
use Rattle.std.specs.Prelude.{◌≡◌, ℕ, ◌+◌, ◌-◌, ◌^◌, ◌<◌, Bool, ◌&&◌, List, [], ◌∷◌, ◌++◌, length, drop, replicate, ◌==◌, slice_index_or}
use Rattle.std.specs.List.{AllByRecursion as Each}
use Rattle.elements.specs.Laws.{Operations}
use Rattle.polynomials.specs.Polynomials.{onto, Remainder}
use Rattle.polynomials.specs.Division.{division}

-- a generator of degree d has d + 1 coefficients, the highest of which is one, and its preset has d; d is 1 at least, and small enough to count with
pub record Generates {E : Type 0} (ok : E → Type 0) (o : Operations E) (d : ℕ) (generator preset : List E) : Type 0 where
  pub some : 0 < d
  pub few : d < 2 ^ 32
  pub long : length generator ≡ d + 1
  pub leads : slice_index_or generator 0 o.zero ≡ o.one
  pub preset_long : length preset ≡ d
  pub proper : Each ok generator
  pub preset_proper : Each ok preset

-- whether the buffers have the lengths that a check of d elements wants: d for the check, and d + 1 for each row of room
abbrev pub room : {E : Type 0} → ℕ → List E → List E → List E → Bool
room d out row divisor = length out == d && (length row == d + 1 && length divisor == d + 1)

module _ {E : Type 0} (o : Operations E) where
  -- x^d times the message, plus x^k times the preset: both begin at the highest coefficient
  abbrev pub dividend : ℕ → List E → List E → List E
  dividend d preset message = onto o preset (message ++ replicate d o.zero)

  -- its remainder by the generator
  abbrev pub check : List E → List E → List E → List E
  check generator preset message = drop (length message) (division o generator (dividend (length generator - 1) preset message)).1

  -- the same as a relation: some quotient times the generator, plus the check, is the dividend
  abbrev pub Checks : List E → List E → List E → List E → Type 0
  Checks generator preset message = Remainder o generator (dividend (length generator - 1) preset message)

  -- x times a register plus x^d times an element, as the dividend of one step
  abbrev pub laid_out : List E → E → List E
  laid_out [] x = []
  laid_out (r ∷ rs) x = o.add r x ∷ (rs ++ (o.zero ∷ []))

  -- the register after one element more of the message
  abbrev pub stepped : List E → List E → E → List E
  stepped generator register x = drop 1 (division o generator (laid_out register x)).1
