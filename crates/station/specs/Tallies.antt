-- The tally's counts.
use Rattle.std.specs.Prelude.{ℕ, ◌+◌, ◌-◌, ◌^◌, min, cond, ◌&&◌, replicate, Some, None, Option, nat_le, slice_index, slice_index_or, slice_set}
use Rattle.format.specs.declared.mode.Mode.{Mode}
use Rattle.format.specs.Modes.{row}
use Rattle.station.specs.declared.tally.Row.{Row}
use Rattle.station.specs.declared.tally.Tally.{Tally}

-- a count that would pass the counter's end stops there
abbrev pub most : ℕ
most = 2 ^ 32 - 1

abbrev pub plus : ℕ → ℕ → ℕ
plus n k = min (n + k) most

abbrev pub no_row : Row
no_row = record { windows = 0; octets = 0 }

abbrev pub no_tally : Tally
no_tally = record { rows = replicate 7 no_row; refusals = replicate 19 0 }

-- the row of a mode, and the tally with one window more delivered in it, k octets of it mended
abbrev pub row_at : Tally → ℕ → Row
row_at t i = slice_index_or t.rows i no_row

abbrev pub delivered : Tally → Mode → ℕ → Tally
delivered t m k =
    let i = (row m).number - 1 in
    record { rows = slice_set t.rows i (record { windows = plus (row_at t i).windows 1; octets = plus (row_at t i).octets k }); refusals = t.refusals }

-- the tally with one more turned down by a refusal
abbrev pub refused : Tally → ℕ → Tally
refused t number = record { rows = t.rows; refusals = slice_set t.refusals (number - 1) (plus (slice_index t.refusals (number - 1)) 1) }

-- what the tally answers about a mode's number, and about a refusal's
abbrev pub mode_count : Tally → ℕ → Option Row
mode_count t number = cond (nat_le 1 number && nat_le number 7) (Some (row_at t (number - 1))) None

abbrev pub refusal_count : Tally → ℕ → Option ℕ
refusal_count t number = cond (nat_le 1 number && nat_le number 19) (Some (slice_index t.refusals (number - 1))) None
