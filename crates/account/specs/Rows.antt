-- The rows of docs/REFUSALS.md that need no mender: which applies first.
use Rattle.std.specs.Prelude.{ℕ, Bool, true, false, cond, ◌&&◌, List, ◌++◌, length, take, Some, None, Ok, Err, Option, Result, ◌==◌, nat_le}
use Rattle.elements.specs.Octets.{octets}
use Rattle.polynomials.specs.Differences.{differing}
use Rattle.format.specs.declared.code.Code.{Code}
use Rattle.format.specs.declared.code.Code.TheVariants.{A, MinusA, B, MinusB}
use Rattle.format.specs.declared.fault.DoorFault.{DoorFault}
use Rattle.format.specs.declared.fault.DoorFault.TheVariants.{Channels as no_channels, Buffers, Window, Chip}
use Rattle.format.specs.declared.mode.Mode.{Mode}
use Rattle.format.specs.Modes.{row, mode_by}
use Rattle.format.specs.Header.{hcs}
use Rattle.format.specs.Frame.{payload_place}
use Rattle.format.specs.Reading.{bad_from, code_at, read_code, phy_read, mac_read, hcs_read}
use Rattle.faults.specs.declared.fault.PreambleFault.{PreambleFault}
use Rattle.faults.specs.declared.fault.PreambleFault.TheVariants.{Unreadable, Unsigned, Estimation, NoMode, Channels}
use Rattle.faults.specs.declared.fault.HeaderFault.{HeaderFault}
use Rattle.faults.specs.declared.fault.HeaderFault.TheVariants.{Check, Reserved, Length}

abbrev pub chip_row : Option ℕ → Option DoorFault
chip_row None = None
chip_row (Some p) = Some (Chip p)

-- the door of a read: n is 1 to 4; the body buffer has 2,048 octets at least, and the MAC header buffer 10;
-- the window has 2,560n + 4,096 to 65,536 chips; and each chip is 0 or 1
abbrev pub door_row : ℕ → List ℕ → List ℕ → List ℕ → Option DoorFault
door_row n w body mac =
    cond (nat_le 1 n && nat_le n 4)
    (cond (nat_le 2048 (length body) && length mac == 10)
    (cond (nat_le (payload_place n) (length w) && nat_le (length w) 65536)
    (chip_row (bad_from 0 w)) (Some Window)) (Some Buffers)) (Some no_channels)

-- the sign of a code, true for minus; b has none
abbrev pub sign_of : Code → Option Bool
sign_of A = Some false
sign_of MinusA = Some true
sign_of B = None
sign_of MinusB = None

abbrev pub mode_signed : Option Bool → Option Bool → Option Bool → Option Mode
mode_signed (Some a) (Some b) (Some c) = mode_by a b c
mode_signed (Some a) (Some b) None = None
mode_signed (Some a) None c = None
mode_signed None b c = None

-- the mode, if its channels are those named
abbrev pub for_channels : ℕ → Option Mode → Result Mode PreambleFault
for_channels n None = Err NoMode
for_channels n (Some m) = cond ((row m).channels == n) (Ok m) (Err Channels)

-- the four codes of the first SFD group, once all are read: SFD1 is the inverted a, and the others tell the mode
abbrev pub group_row : ℕ → Code → Code → Code → Code → Result Mode PreambleFault
group_row n A c d e = Err Unsigned
group_row n B c d e = Err Unsigned
group_row n MinusB c d e = Err Estimation
group_row n MinusA c d e = for_channels n (mode_signed (sign_of c) (sign_of d) (sign_of e))

abbrev pub codes_row : ℕ → Option Code → Option Code → Option Code → Option Code → Result Mode PreambleFault
codes_row n None c d e = Err (Unreadable 1)
codes_row n (Some b) None d e = Err (Unreadable 2)
codes_row n (Some b) (Some c) None e = Err (Unreadable 3)
codes_row n (Some b) (Some c) (Some d) None = Err (Unreadable 4)
codes_row n (Some b) (Some c) (Some d) (Some e) = group_row n b c d e

-- what the preamble of a window says
abbrev pub preamble_row : ℕ → List ℕ → Result Mode PreambleFault
preamble_row n w = codes_row n (read_code (code_at n 0 w)) (read_code (code_at n 1 w)) (read_code (code_at n 2 w)) (read_code (code_at n 3 w))

-- whether a header word's check is right
abbrev pub check_right : List ℕ → Bool
check_right h = differing octets (hcs_read h) (hcs (take 4 h ++ mac_read h)) == 0

-- a header word that is a codeword: its check, its reserved bits and its length
abbrev pub header_row : List ℕ → Option HeaderFault
header_row h = cond (check_right h) (cond ((phy_read h).reserved == 0) (cond (nat_le (phy_read h).length 2048) None (Some Length)) (Some Reserved)) (Some Check)
