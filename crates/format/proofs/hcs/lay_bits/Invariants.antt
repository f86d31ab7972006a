use Rattle.std.proofs.Common.{◌≡◌, ℕ, ◌<◌, false, map, get_or}
use Rattle.format.specs.Bits.{flag, line}
use Rattle.format.proofs.hcs.lay_bits.Given as goal

abbrev pub invariant-loop-i : goal.invariant-loop-i
invariant-loop-i l = (k : ℕ) → k < l.i → get_or l.room k false ≡ get_or (map flag (line l.octets)) k false
