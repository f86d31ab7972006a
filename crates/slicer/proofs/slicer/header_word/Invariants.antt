use Rattle.std.proofs.Common.{◌≡◌, ◌+◌}
use Rattle.format.specs.Reading.{despread}
use Rattle.slicer.proofs.Groups.{Written}
use Rattle.slicer.proofs.slicer.header_word.Given as goal

abbrev pub invariant-loop-j : goal.invariant-loop-j
invariant-loop-j l =
    let j = l.j-iterator.count in
    let chunks = l.j-iterator.iter.iter in
    (chunks.size ≡ 128) × (l.j-iterator.iter.n + j ≡ 32) × Written l.word j chunks.rest.now l.register.bits (despread l.part.chips.now)
