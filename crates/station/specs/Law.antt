-- The law of a station over whole runs.
use Rattle.std.specs.Prelude.{◌≡◌, ℕ, ◌+◌, ◌%◌, min, cond, ◌&&◌, List, [], ◌∷◌, ◌++◌, Some, None, Ok, Err, Result, ◌==◌, nat_le}
use Rattle.mending.specs.Menders.{Rule}
use Rattle.format.specs.Modes.{row}
use Rattle.format.specs.Frame.{Frame, Lawful, frame_chips}
use Rattle.format.specs.Fits.{octets_apart}
use Rattle.faults.specs.declared.delivery.Built.{Built}
use Rattle.faults.specs.declared.delivery.Delivery.{Delivery}
use Rattle.faults.specs.declared.fault.Fault.{Fault}
use Rattle.account.specs.Asks.{Asked, Chain}
use Rattle.faults.specs.Faults.{fault_refusal}
use Rattle.station.specs.Tallies.{most}
use Rattle.account.specs.Rows.{door_row}
use Rattle.account.specs.Builds.{BuiltAs}
use Rattle.account.specs.Reads.{Read}
use Rattle.account.specs.Claims.{frame_read, ReadRight}
use Rattle.station.specs.Runs.{Call, build, read, ask_mode, ask_refusal}

-- counts over calls

abbrev pub accepted : Result Built Fault → ℕ
accepted (Ok b) = 1
accepted (Err e) = 0

-- how many builds were accepted
abbrev pub builds : List Call → ℕ
builds [] = 0
builds (build b ∷ past) = accepted b.answer + builds past
builds (read r ∷ past) = builds past
builds (ask_mode number a ∷ past) = builds past
builds (ask_refusal number a ∷ past) = builds past

-- n, if the read delivered a frame of the mode with this number
abbrev pub in_mode : ℕ → Delivery → ℕ → ℕ
in_mode number d n = cond ((row d.mode).number == number) n 0

abbrev pub window_of : ℕ → Result Delivery Fault → ℕ
window_of number (Ok d) = in_mode number d 1
window_of number (Err e) = 0

abbrev pub octets_of : ℕ → Read → Result Delivery Fault → ℕ
octets_of number r (Ok d) = in_mode number d (octets_apart r.channels (frame_read r d) r.window)
octets_of number r (Err e) = 0

-- how many reads delivered a frame of a mode
abbrev pub windows : ℕ → List Call → ℕ
windows number [] = 0
windows number (build b ∷ past) = windows number past
windows number (read r ∷ past) = window_of number r.answer + windows number past
windows number (ask_mode n a ∷ past) = windows number past
windows number (ask_refusal n a ∷ past) = windows number past

-- in how many word octets, summed over those reads, window and frame differ
abbrev pub octets : ℕ → List Call → ℕ
octets number [] = 0
octets number (build b ∷ past) = octets number past
octets number (read r ∷ past) = octets_of number r r.answer + octets number past
octets number (ask_mode n a ∷ past) = octets number past
octets number (ask_refusal n a ∷ past) = octets number past

abbrev pub turned : {A : Type 0} → ℕ → Result A Fault → ℕ
turned number (Ok x) = 0
turned number (Err e) = cond ((fault_refusal e).number == number) 1 0

-- how many builds and reads a refusal turned down
abbrev pub refusals : ℕ → List Call → ℕ
refusals number [] = 0
refusals number (build b ∷ past) = turned number b.answer + refusals number past
refusals number (read r ∷ past) = turned number r.answer + refusals number past
refusals number (ask_mode n a ∷ past) = refusals number past
refusals number (ask_refusal n a ∷ past) = refusals number past

-- what the mender was asked, call after call
abbrev pub all_asks : List Call → List Asked
all_asks [] = []
all_asks (build b ∷ past) = all_asks past
all_asks (read r ∷ past) = r.asks ++ all_asks past
all_asks (ask_mode n a ∷ past) = all_asks past
all_asks (ask_refusal n a ∷ past) = all_asks past

-- what a call answers is what the calls before it call for
abbrev pub Right : ℕ → List Call → Call → Type 0
Right reach past (build b) = BuiltAs (builds past % 16) b
Right reach past (read r) = ReadRight reach r
Right reach past (ask_mode number a) =
    a ≡ cond (nat_le 1 number && nat_le number 7) (Some (record { windows = min (windows number past) most; octets = min (octets number past) most })) None
Right reach past (ask_refusal number a) = a ≡ cond (nat_le 1 number && nat_le number 19) (Some (min (refusals number past) most)) None

-- the law: wherever a run is cut at a call, that call is right; and what the mender proposed is chained by its rule from how it stood at first
pub record Law {M : Type 0} (rule : Rule M) (reach : ℕ) (m : M) (calls : List Call) : Type 0 where
  pub right : (past : List Call) (c : Call) (rest : List Call) → calls ≡ past ++ (c ∷ rest) → Right reach past c
  pub last : M
  pub chained : Chain rule m (all_asks calls) last

-- a consequence: a read of a window that begins with a lawful frame's own chips, named with its channels and past the door, delivers that frame
abbrev pub ComesBack : List Call → Type 0
ComesBack calls =
    (past : List Call) (r : Read) (rest : List Call) → calls ≡ past ++ (read r ∷ rest)
    → (f : Frame) (more : List ℕ) → Lawful f → r.window ≡ frame_chips f ++ more → r.channels ≡ (row f.mode).channels
    → door_row r.channels r.window r.body r.mac ≡ None → (d : Delivery) × (r.answer ≡ Ok d) × (frame_read r d ≡ f)
