use Rattle.std.proofs.Common.{◌≡◌, ◌≤◌, drop}
use Rattle.chosen.specs.Names.{comma}
use Rattle.chosen.proofs.naming.first_comma.Given as goal

abbrev pub invariant-loop-i : goal.invariant-loop-i
invariant-loop-i l = (comma l.depth l.i (drop l.i l.text) ≡ comma 0 0 l.text) × (l.depth ≤ l.i)
