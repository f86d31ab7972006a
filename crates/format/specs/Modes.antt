-- The table of modes.
use Rattle.std.specs.Prelude.{ℕ, zero, suc, Bool, true, false, List, [], ◌∷◌, Some, None, Option}
use Rattle.format.specs.declared.mode.Mode.{Mode}
use Rattle.format.specs.declared.mode.Mode.TheVariants.{M1, M2, M3, M4, M5, M6, M7}

-- what a mode is: its number, the channels bonded, how often a payload bit is sent, and which of SFD2 to SFD4 are inverted
pub record Row : Type 0 where
  pub number : ℕ
  pub channels : ℕ
  pub spread : ℕ
  pub minus : List Bool

abbrev pub row : Mode → Row
row M1 = record { number = 1; channels = 1; spread = 1; minus = false ∷ false ∷ false ∷ [] }
row M2 = record { number = 2; channels = 2; spread = 2; minus = false ∷ false ∷ true ∷ [] }
row M3 = record { number = 3; channels = 2; spread = 1; minus = false ∷ true ∷ false ∷ [] }
row M4 = record { number = 4; channels = 3; spread = 2; minus = false ∷ true ∷ true ∷ [] }
row M5 = record { number = 5; channels = 3; spread = 1; minus = true ∷ false ∷ false ∷ [] }
row M6 = record { number = 6; channels = 4; spread = 2; minus = true ∷ false ∷ true ∷ [] }
row M7 = record { number = 7; channels = 4; spread = 1; minus = true ∷ true ∷ false ∷ [] }

-- the mode of a number, 1 to 7
abbrev pub mode_of : ℕ → Option Mode
mode_of zero = None
mode_of (suc zero) = Some M1
mode_of (suc (suc zero)) = Some M2
mode_of (suc (suc (suc zero))) = Some M3
mode_of (suc (suc (suc (suc zero)))) = Some M4
mode_of (suc (suc (suc (suc (suc zero))))) = Some M5
mode_of (suc (suc (suc (suc (suc (suc zero)))))) = Some M6
mode_of (suc (suc (suc (suc (suc (suc (suc zero))))))) = Some M7
mode_of (suc (suc (suc (suc (suc (suc (suc (suc n)))))))) = None

-- the mode that the signs of SFD2 to SFD4 tell
abbrev pub mode_by : Bool → Bool → Bool → Option Mode
mode_by false false false = Some M1
mode_by false false true = Some M2
mode_by false true false = Some M3
mode_by false true true = Some M4
mode_by true false false = Some M5
mode_by true false true = Some M6
mode_by true true false = Some M7
mode_by true true true = None
