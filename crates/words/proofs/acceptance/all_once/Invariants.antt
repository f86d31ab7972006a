use Rattle.std.proofs.Common.{◌≡◌, length}
use Rattle.words.specs.Changes.{once}
use Rattle.words.proofs.acceptance.all_once.Given as goal

abbrev pub invariant-loop-left : goal.invariant-loop-left
invariant-loop-left l = once l.left ≡ once l.changes

abbrev pub decreases-loop-left : goal.decreases-loop-left
decreases-loop-left l = length l.left
