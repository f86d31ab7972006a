use Rattle.std.proofs.Common.{◌≡◌, drop, Some}
use Rattle.captures.specs.Windows.{counted}
use Rattle.captures.proofs.line.channel_count.Given as goal

abbrev pub invariant-loop-d : goal.invariant-loop-d
invariant-loop-d l = counted (Some l.count) (drop l.d-index l.field) ≡ counted (Some 0) l.field
