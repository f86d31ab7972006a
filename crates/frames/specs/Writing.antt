-- What the writer of frames answers, and what it leaves in the chips.
use Rattle.std.specs.Prelude.{ℕ, ◌%◌, Bool, cond, List, ◌++◌, length, drop, Some, None, Ok, Err, Option, Result, ◌==◌, nat_le}
use Rattle.format.specs.declared.mode.Mode.{Mode}
use Rattle.format.specs.Modes.{mode_of}
use Rattle.format.specs.Frame.{Frame, frame_chips, frame_length}
use Rattle.format.specs.declared.fault.DoorFault.{DoorFault}
use Rattle.format.specs.declared.fault.DoorFault.TheVariants.{Mode as NoMode, Mac, Body, Room}

-- the mode of a frame, by the lengths of MAC header and body, or the first reason to refuse it
abbrev pub sized : Option Mode → ℕ → ℕ → Result Mode DoorFault
sized None mac body = Err NoMode
sized (Some m) mac body = cond (mac == 10) (cond (nat_le body 2048) (Ok m) (Err Body)) (Err Mac)

-- and at last whether the chips have room for it
abbrev pub roomed : Result Mode DoorFault → ℕ → ℕ → Result Mode DoorFault
roomed (Ok m) body chips = cond (nat_le (frame_length m body) chips) (Ok m) (Err Room)
roomed (Err f) body chips = Err f

abbrev pub admission : ℕ → List ℕ → List ℕ → List ℕ → Result Mode DoorFault
admission mode mac body chips = roomed (sized (mode_of mode) (length mac) (length body)) (length body) (length chips)

-- the answer: how many chips the frame has
abbrev pub answer_by : Result Mode DoorFault → ℕ → Result ℕ DoorFault
answer_by (Ok m) body = Ok (frame_length m body)
answer_by (Err f) body = Err f

abbrev pub write_answer : ℕ → List ℕ → List ℕ → List ℕ → Result ℕ DoorFault
write_answer mode mac body chips = answer_by (admission mode mac body chips) (length body)

-- the frame that is written: of the seed only the four low bits count
abbrev pub frame_of : Mode → ℕ → Bool → List ℕ → List ℕ → Frame
frame_of m seed aggregation mac body = record { mode = m; seed = seed % 16; aggregation = aggregation; mac = mac; body = body }

-- the chips: the frame and then what stood there, or all as before
abbrev pub chips_by : Result Mode DoorFault → ℕ → Bool → List ℕ → List ℕ → List ℕ → List ℕ
chips_by (Ok m) seed aggregation mac body chips = frame_chips (frame_of m seed aggregation mac body) ++ drop (frame_length m (length body)) chips
chips_by (Err f) seed aggregation mac body chips = chips

abbrev pub write_chips : ℕ → ℕ → Bool → List ℕ → List ℕ → List ℕ → List ℕ
write_chips mode seed aggregation mac body chips = chips_by (admission mode mac body chips) seed aggregation mac body chips
