use Rattle.std.proofs.Common.{◌≡◌, true, length, drop}
use Rattle.words.specs.Changes.{changed, inside}
use Rattle.words.proofs.acceptance.put.Given as goal

abbrev pub invariant-loop-c : goal.invariant-loop-c
invariant-loop-c l =
    (changed l.word (drop l.c-index l.changes) ≡ changed l.initial.word l.changes)
    × (inside (length l.initial.word) (drop l.c-index l.changes) ≡ true)
