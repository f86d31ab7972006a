use Rattle.std.proofs.Common.{rules}
use Rattle.mending.proofs.Mendings.{mends, refuses}
use Rattle.mending.proofs.mending.mend.Goals as goal

pub returns-in_err-apply : goal.returns-in_err-apply
returns-in_err-apply g c = search (rules, refuses)

pub returns : goal.returns
returns g c = search (rules, mends)
