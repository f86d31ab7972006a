use Rattle.std.proofs.Common.{◌≡◌, ℕ, List, ◌++◌}
use Rattle.std.specs.Fmt.{HasWritten, IsPlainFormatter}
use Rattle.std.specs.Slice.Iter.{chunks_rest, chunks_size}
use Rattle.writing.specs.Octets.{octets_hex}
use Rattle.writing.proofs.octets.OctetsDisplay.fmt.Given as goal

abbrev pub invariant-loop-octets : goal.invariant-loop-octets
invariant-loop-octets g l =
    (goal.iterator-loop-octets g).can_next l.octets-iterator
    × (goal.iterator-loop-octets g).is_finite l.octets-iterator
    × (chunks_size l.octets-iterator ≡ 32)
    × (IsPlainFormatter l.fn.f → (done : List ℕ) × HasWritten g.W.Write.write_str_gives l.fn.f done l.f
    × (done ++ octets_hex (chunks_rest l.octets-iterator) ≡ octets_hex l.fn.self.0.now))
