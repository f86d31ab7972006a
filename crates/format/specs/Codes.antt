-- The codes of the preamble.
use Rattle.std.specs.Prelude.{ℕ, zero, suc, ◌-◌, ◌/◌, ◌%◌, ◌^◌, List, [], ◌∷◌, map}
use Rattle.format.specs.declared.code.Code.{Code}
use Rattle.format.specs.declared.code.Code.TheVariants.{A, MinusA, B, MinusB}

-- the n bits of a number, the highest first
unfoldable pub high_first : ℕ → ℕ → List ℕ
high_first zero v = []
high_first (suc n) v = v / 2 ^ n % 2 ∷ high_first n v

unfoldable pub code_a : List ℕ
unfolding high_first
code_a = high_first 128 0x0536635005C963AFFAC99CAF05C963AF

unfoldable pub code_b : List ℕ
unfolding high_first
code_b = high_first 128 0x0A396C5F0AC66CA0F5C693A00AC66CA0

-- dark for lit and lit for dark
unfoldable pub inverted : List ℕ → List ℕ
inverted chips = map (λ c. 1 - c) chips

-- the chips of each code
abbrev pub code_chips : Code → List ℕ
code_chips A = code_a
code_chips MinusA = inverted code_a
code_chips B = code_b
code_chips MinusB = inverted code_b
