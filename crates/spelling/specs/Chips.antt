-- The chips that digits write.
use Rattle.std.specs.Prelude.{ℕ, ◌-◌, cond, List, Some, None, Option}
use Rattle.spelling.specs.Lists.{each, spelled}
use Rattle.spelling.specs.Numbers.{in_range}

abbrev pub chip_value : ℕ → Option ℕ
chip_value c = cond (in_range 48 57 c) (Some (c - 48)) None

abbrev pub chips_read : List ℕ → Option (List ℕ)
chips_read t = spelled (each chip_value) t
