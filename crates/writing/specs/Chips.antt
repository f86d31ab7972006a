-- Chips as digits.
use Rattle.std.specs.Prelude.{ℕ, ◌+◌, cond, List, map, length, codes, ◌==◌, nat_lt}

-- how chips are written; what is above 9 has no digit
abbrev pub chip_char : ℕ → ℕ
chip_char c = cond (nat_lt c 10) (48 + c) 63

abbrev pub chips_written : List ℕ → List ℕ
chips_written cs = cond (length cs == 0) (codes "-") (map chip_char cs)
