use Rattle.std.proofs.Common.{◌≡◌, ◌+◌, ◌-◌, ◌*◌, ◌^◌, ◌<◌, ◌≤◌, length}
use Rattle.format.specs.Sequences.{value, after}
use Rattle.slicer.specs.Slices.{bits_from}
use Rattle.slicer.proofs.slicer.voted.Given as goal

abbrev pub invariant-loop-k : goal.invariant-loop-k
invariant-loop-k l =
    let k = l.k-iterator.count in
    let rest = l.k-iterator.iter.rest.now in
    let r = l.register.bits in
    (l.k-iterator.iter.size ≡ 16)
    × (length rest + 16 * k ≤ 128)
    × (l.octet < 2 ^ k)
    × (l.octet + 2 ^ k * value (bits_from (8 - k) rest r) ≡ value (bits_from 8 l.chips l.initial.register.bits))
    × (after (length rest) r ≡ after (length l.chips) l.initial.register.bits)
