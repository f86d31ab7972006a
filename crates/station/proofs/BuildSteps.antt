-- A build that the writer of frames refuses is turned down by the first row that applies.
use Rattle.std.proofs.Common.{◌≡◌, ℕ, Bool, true, false, cond, eqb, leb, List, length, Some, None, Ok, Err, Option, Result, ap, ◌∙◌, arith}
use Rattle.format.specs.declared.fault.DoorFault.{DoorFault}
use Rattle.format.specs.declared.fault.DoorFault.TheVariants.{Mac, Body, Room}
use Rattle.format.specs.declared.mode.Mode.{Mode}
use Rattle.format.specs.Modes.{mode_of}
use Rattle.format.specs.Frame.{frame_length}
use Rattle.frames.specs.Writing.{sized, roomed, answer_by, chips_by, write_answer, write_chips}
use Rattle.faults.specs.declared.fault.Fault.TheVariants.{Door}
use Rattle.account.specs.Builds.{Build, NotBuilt, ByRoom, ByNumber, BuiltAs}

module _ (seed : ℕ) (b : Build) (e : DoorFault) (answers : b.answer ≡ Err (Door e)) where
  -- what the writer did with the chips, by the mode that it admitted
  abbrev left : Result Mode DoorFault → List ℕ
  left r = chips_by r seed b.aggregation b.mac b.body b.chips

  down : (f : DoorFault) → Err e ≡ answer_by (Err f) (length b.body) → b.chips_after ≡ b.chips → NotBuilt b f
  down f is kept = let same : e ≡ f = cc in record { answers = answers ∙ ap (λ x. Err (Door x)) same; untouched = kept }

  with_room : (m : Mode) (z : Bool) → Err e ≡ answer_by (cond z (Ok m) (Err Room)) (length b.body) → b.chips_after ≡ left (cond z (Ok m) (Err Room)) → ByRoom seed b m (cond z None (Some Room))
  with_room m false is kept = down Room is kept
  with_room m true is kept = let z : ◌≡◌ {A = ℕ} 0 1 = cc in absurd (omega arith)

  abbrev judged : Result Mode DoorFault → Result Mode DoorFault
  judged r = roomed r (length b.body) (length b.chips)

  rows : (m : Mode) (x y : Bool) → Err e ≡ answer_by (judged (cond x (cond y (Ok m) (Err Body)) (Err Mac))) (length b.body)
      → b.chips_after ≡ left (judged (cond x (cond y (Ok m) (Err Body)) (Err Mac)))
      → ByRoom seed b m (cond x (cond y (cond (leb (frame_length m (length b.body)) (length b.chips)) None (Some Room)) (Some Body)) (Some Mac))
  rows m false y is kept = down Mac is kept
  rows m true false is kept = down Body is kept
  rows m true true is kept = with_room m (leb (frame_length m (length b.body)) (length b.chips)) is kept

  by_mode : (o : Option Mode) → Err e ≡ answer_by (judged (sized o (length b.mac) (length b.body))) (length b.body)
      → b.chips_after ≡ left (judged (sized o (length b.mac) (length b.body))) → ByNumber seed b o
  by_mode None is kept = down _ is kept
  by_mode (Some m) is kept = rows m (eqb (length b.mac) 10) (leb (length b.body) 2048) is kept

  pub not_built : b.body_after ≡ b.body → Err e ≡ write_answer b.mode b.mac b.body b.chips
      → b.chips_after ≡ write_chips b.mode seed b.aggregation b.mac b.body b.chips → BuiltAs seed b
  not_built body is kept = record { body_kept = body; row = by_mode (mode_of b.mode) is kept }
