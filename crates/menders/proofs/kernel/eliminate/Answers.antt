use Rattle.std.proofs.Common.{sym}
use Rattle.menders.proofs.Elimination.{all_solve, eliminated}
use Rattle.menders.proofs.kernel.eliminate.Goals as goal

pub returns-in_default : goal.returns-in_default
returns-in_default c = sym (all_solve c.args.equation.now c.args.rows.now.items c.first_unsolved.result (cc) c.in_default.is)

pub returns : goal.returns
returns c =
    rw (c.clear.ensures, c.deref_mut.ensures.value)
    (eliminated c.args.equation.now c.args.rows.now.items c.remove-pivot.new.self.items c.first_unsolved.result c.in-Some.p c.remove-pivot.result
    (cc) c.in-Some.is c.remove-pivot.ensures.items c.remove-pivot.ensures.value)
