-- Which windows are refused, and where the parts stand in them.
use Rattle.std.specs.Prelude.{◌≡◌, ℕ, ◌+◌, Bool, true, cond, ◌||◌, List, length, Some, None, Option, nat_le, nat_lt}
use Rattle.format.specs.declared.fault.DoorFault.{DoorFault}
use Rattle.format.specs.declared.fault.DoorFault.TheVariants.{Mode as NoMode, Channels, Window}
use Rattle.format.specs.declared.mode.Mode.{Mode}
use Rattle.format.specs.Modes.{row}
use Rattle.format.specs.Frame.{header_place, payload_place}
use Rattle.format.specs.Reading.{bad_from, header_part, block_place, block_chips}

-- the place of the first chip above 1
abbrev pub first_bad : List ℕ → Option ℕ
first_bad w = bad_from 0 w

-- whether a window of this length is refused for n channels: it ends before the payload begins, or has over 65,536 chips
abbrev pub odd_length : ℕ → ℕ → Bool
odd_length n size = nat_lt size (payload_place n) || nat_lt 65536 size

-- why the header of n channels is refused, if it is
abbrev pub header_row : ℕ → List ℕ → Option DoorFault
header_row n w = cond (nat_lt n 1 || nat_lt 4 n) (Some Channels) (cond (odd_length n (length w)) (Some Window) None)

-- the header of n channels stands in a window, which is not refused, as these chips at this place
abbrev pub HeaderAt : ℕ → List ℕ → List ℕ → ℕ → Type 0
HeaderAt n w chips place = (header_row n w ≡ None) × (chips ≡ header_part n w) × (place ≡ header_place n)

-- why the blocks of a mode are refused, if they are
abbrev pub block_row : Option Mode → List ℕ → Option DoorFault
block_row None w = Some NoMode
block_row (Some m) w = cond (odd_length (row m).channels (length w)) (Some Window) None

-- whether block b is wholly in the window, pilots too
abbrev pub block_in : Mode → ℕ → List ℕ → Bool
block_in m b w = nat_le (block_place m (b + 1)) (length w)

-- block b stands in the window, wholly, with its data chips at this place
abbrev pub BlockAt : Mode → ℕ → List ℕ → List ℕ → ℕ → Type 0
BlockAt m b w chips place = (block_in m b w ≡ true) × (chips ≡ block_chips m b w) × (place ≡ block_place m b)
