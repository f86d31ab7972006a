use Rattle.std.proofs.Common.{◌≡◌, ℕ, ◌<◌, [], get_or}
use Rattle.writing.specs.Octets.{octet_written}
use Rattle.writing.proofs.octets.digits.Given as goal

abbrev pub invariant-loop-i : goal.invariant-loop-i
invariant-loop-i l = (k : ℕ) → k < l.i → get_or l.pairs k [] ≡ octet_written (get_or l.octets k 0)
