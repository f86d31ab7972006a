-- A build, under the seed that the station stands at.
use Rattle.std.specs.Prelude.{◌≡◌, ℕ, Bool, cond, List, ◌++◌, length, drop, Some, None, Ok, Err, Option, Result, ◌==◌, nat_le}
use Rattle.format.specs.declared.fault.DoorFault.{DoorFault}
use Rattle.format.specs.declared.fault.DoorFault.TheVariants.{Mode as NoMode, Mac, Body, Room}
use Rattle.format.specs.declared.mode.Mode.{Mode}
use Rattle.format.specs.Modes.{mode_of}
use Rattle.format.specs.Frame.{Frame, frame_chips, frame_length}
use Rattle.faults.specs.declared.delivery.Built.{Built}
use Rattle.faults.specs.declared.fault.Fault.{Fault}
use Rattle.faults.specs.declared.fault.Fault.TheVariants.{Door}

-- a build: the mode's number, the aggregation, the MAC header, the body and the chip buffer as it began; the answer, and the buffers as it ended
pub record Build : Type 0 where
  pub mode : ℕ
  pub aggregation : Bool
  pub mac : List ℕ
  pub body : List ℕ
  pub chips : List ℕ
  pub answer : Result Built Fault
  pub body_after : List ℕ
  pub chips_after : List ℕ

-- the frame that it names, under a seed
abbrev pub frame_named : ℕ → Mode → Build → Frame
frame_named seed m b = record { mode = m; seed = seed; aggregation = b.aggregation; mac = b.mac; body = b.body }

-- which row turns a build in a mode down: the MAC header has not 10 octets, the body is over 2,048, or the chip buffer is too short
abbrev pub room_row : Mode → Build → Option DoorFault
room_row m b =
    cond (length b.mac == 10) (cond (nat_le (length b.body) 2048) (cond (nat_le (frame_length m (length b.body)) (length b.chips)) None (Some Room)) (Some Body)) (Some Mac)

-- the build is turned down, and the chip buffer is as before
pub record NotBuilt (b : Build) (e : DoorFault) : Type 0 where
  pub answers : b.answer ≡ Err (Door e)
  pub untouched : b.chips_after ≡ b.chips

-- the frame is written, and later chips keep their values
pub record WrittenAs (seed : ℕ) (m : Mode) (b : Build) : Type 0 where
  pub answers : b.answer ≡ Ok (record { seed = seed; chips = frame_length m (length b.body) })
  pub written : b.chips_after ≡ frame_chips (frame_named seed m b) ++ drop (frame_length m (length b.body)) b.chips

abbrev pub ByRoom : ℕ → Build → Mode → Option DoorFault → Type 0
ByRoom seed b m (Some e) = NotBuilt b e
ByRoom seed b m None = WrittenAs seed m b

abbrev pub ByNumber : ℕ → Build → Option Mode → Type 0
ByNumber seed b None = NotBuilt b NoMode
ByNumber seed b (Some m) = ByRoom seed b m (room_row m b)

-- the first row that applies is the answer; where none does, the frame is built under the seed. The body stands as before
pub record BuiltAs (seed : ℕ) (b : Build) : Type 0 where
  pub body_kept : b.body_after ≡ b.body
  pub row : ByNumber seed b (mode_of b.mode)
