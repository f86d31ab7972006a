use Rattle.std.proofs.Common.{◌≡◌, drop, Option, vec_items}
use Rattle.std.specs.Fn.{FnReturnsAt}
use Rattle.spelling.specs.Lists.{behind, each}
use Rattle.spelling.proofs.list.read_each.Given as goal

abbrev pub invariant-loop-part : goal.invariant-loop-part
invariant-loop-part g l =
    (meaning : _ → Option _) → ((part : _) (said : _) → FnReturnsAt g.F.Fn l.read part said → said ≡ meaning part)
    → behind (vec_items l.list) (each meaning (drop l.part-index l.parts)) ≡ each meaning l.parts
