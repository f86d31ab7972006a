use Rattle.std.proofs.Common.{◌≡◌, ◌*◌, take}
use Rattle.format.specs.Frame.{copies}
use Rattle.frames.proofs.preamble.write_copies.Given as goal

abbrev pub invariant-loop-i : goal.invariant-loop-i
invariant-loop-i g l = take (g.row.N * l.i) l.chips ≡ copies l.i l.piece
