-- What the calls on parts of a window answer.
use Rattle.std.specs.Prelude.{ℕ, cond, List, [], Some, None, codes, Option}
use Rattle.format.specs.declared.fault.DoorFault.{DoorFault}
use Rattle.format.specs.declared.mode.Mode.{Mode}
use Rattle.format.specs.Frame.{header_place}
use Rattle.format.specs.Modes.{mode_of}
use Rattle.format.specs.Reading.{header_part, block_place, block_chips}
use Rattle.format.specs.Refusals.{door_refusal}
use Rattle.windows.specs.Parts.{header_row, block_row, block_in}
use Rattle.answers.specs.Texts.{refused_text, part_text}

-- a refusal of the window, or else what is found in it
abbrev pub unless_refused : Option DoorFault → List ℕ → List ℕ
unless_refused (Some e) text = refused_text (door_refusal e) None None
unless_refused None text = text

abbrev pub header_text : ℕ → List ℕ → List ℕ
header_text n w = unless_refused (header_row n w) (part_text (header_place n) (header_part n w))

abbrev pub block_found : Option Mode → ℕ → List ℕ → List ℕ
block_found None k w = []
block_found (Some m) k w = cond (block_in m k w) (part_text (block_place m k) (block_chips m k w)) (codes "none")

abbrev pub block_text : ℕ → ℕ → List ℕ → List ℕ
block_text mode k w = unless_refused (block_row (mode_of mode) w) (block_found (mode_of mode) k w)
