use Rattle.std.proofs.Common.{◌≡◌, ℕ, List, ◌++◌, map}
use Rattle.std.specs.Fmt.{HasWritten, IsPlainFormatter}
use Rattle.std.specs.Slice.Iter.{chunks_rest, chunks_size}
use Rattle.writing.specs.Chips.{chip_char}
use Rattle.writing.proofs.chips.ChipsDisplay.fmt.Given as goal

abbrev pub invariant-loop-chips : goal.invariant-loop-chips
invariant-loop-chips g l =
    (goal.iterator-loop-chips g).can_next l.chips-iterator
    × (goal.iterator-loop-chips g).is_finite l.chips-iterator
    × (chunks_size l.chips-iterator ≡ 64)
    × (IsPlainFormatter l.fn.f → (done : List ℕ) × HasWritten g.W.Write.write_str_gives l.fn.f done l.f
    × (done ++ map chip_char (chunks_rest l.chips-iterator) ≡ map chip_char l.fn.self.0.now))
