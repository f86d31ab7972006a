use Rattle.std.proofs.Common.{◌∷◌, get_or, take}
use Rattle.std.specs.Fmt.{HasWritten, IsPlainFormatter}
use Rattle.words.specs.Changes.{blank}
use Rattle.writing.specs.Changes.{changes_written}
use Rattle.writing.proofs.changes.ChangesDisplay.fmt.Given as goal

abbrev pub invariant-loop-change : goal.invariant-loop-change
invariant-loop-change g l = IsPlainFormatter l.fn.f → HasWritten g.W.Write.write_str_gives l.fn.f (changes_written (get_or l.self.0.now 0 blank ∷ take l.change-index l.rest)) l.f
