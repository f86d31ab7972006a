-- What a line of a capture holds.
use Rattle.std.specs.Prelude.{◌≡◌, ℕ, ◌+◌, ◌-◌, ◌*◌, Bool, cond, ◌&&◌, ◌||◌, List, [], ◌∷◌, ◌++◌, length, Some, None, codes, decimal, Option, ◌==◌, nat_le, nat_lt}
use Rattle.captures.specs.declared.fault.LineFault.{LineFault}
use Rattle.captures.specs.declared.fault.LineFault.TheVariants.{NoCount, NoChips, TooLong, BadChip}
use Rattle.captures.specs.Lines.{before, behind}

-- a count with one more digit behind it; none where that passes 255, or the octet is no digit
abbrev pub with_digit : ℕ → ℕ → Option ℕ
with_digit n d = cond (nat_le 48 d && (nat_le d 57 && nat_le (10 * n + (d - 48)) 255)) (Some (10 * n + (d - 48))) None

abbrev pub digit_on : Option ℕ → ℕ → Option ℕ
digit_on None d = None
digit_on (Some n) d = with_digit n d

abbrev pub counted : Option ℕ → List ℕ → Option ℕ
counted o [] = o
counted o (d ∷ ds) = counted (digit_on o d) ds

-- a number up to 255, of at least one digit
abbrev pub channel_count : List ℕ → Option ℕ
channel_count [] = None
channel_count (d ∷ ds) = counted (Some 0) (d ∷ ds)

-- 0 or 1 as a digit
abbrev pub chip_digit : ℕ → Bool
chip_digit d = d == 48 || d == 49

-- the place of the first octet that is no such digit, the first octet at i
abbrev pub bad_digit_from : ℕ → List ℕ → Option ℕ
bad_digit_from i [] = None
bad_digit_from i (d ∷ ds) = cond (chip_digit d) (bad_digit_from (i + 1) ds) (Some i)

abbrev pub bad_digit : List ℕ → Option ℕ
bad_digit ds = bad_digit_from 0 ds

-- why these digits are no window's chips, if they are not
abbrev pub bad_fault : Option ℕ → Option LineFault
bad_fault None = None
bad_fault (Some p) = Some (BadChip p)

abbrev pub digits_fault : List ℕ → Option LineFault
digits_fault ds = cond (length ds == 0) (Some NoChips) (cond (nat_lt 65536 (length ds)) (Some TooLong) (bad_fault (bad_digit ds)))

abbrev pub fields_fault : Option ℕ → List ℕ → Option LineFault
fields_fault None ds = Some NoCount
fields_fault (Some n) ds = digits_fault ds

-- why a line holds no window, if it holds none: the first row that applies
abbrev pub line_fault : List ℕ → Option LineFault
line_fault line = fields_fault (channel_count (before 32 line)) (behind 32 line)

-- a line holds a window of so many channels with these digits
abbrev pub WindowIn : List ℕ → ℕ → List ℕ → Type 0
WindowIn line n ds = (line_fault line ≡ None) × (channel_count (before 32 line) ≡ Some n) × (ds ≡ behind 32 line)

-- what is said of it
abbrev pub line_fault_text : LineFault → List ℕ
line_fault_text NoCount = codes "no channel count"
line_fault_text NoChips = codes "no chips"
line_fault_text TooLong = codes "longer than any window"
line_fault_text (BadChip p) = codes "a chip that is neither 0 nor 1, at " ++ decimal p
