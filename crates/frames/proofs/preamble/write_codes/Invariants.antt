use Rattle.std.proofs.Common.{◌≡◌, ◌*◌, take}
use Rattle.format.specs.Frame.{all_signed}
use Rattle.frames.proofs.preamble.write_codes.Given as goal

abbrev pub invariant-loop-k : goal.invariant-loop-k
invariant-loop-k l = take (128 * l.k) l.chips ≡ all_signed (take l.k l.signs)
