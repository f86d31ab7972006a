use Rattle.lines.proofs.Comments.{up_to, whole}
use Rattle.lines.proofs.line.call_part.Goals as goal

pub returns-in-Some : goal.returns-in-Some
returns-in-Some c = up_to c.args.line.now c.in-Some.place c.in-Some.ensures.0 c.in-Some.ensures.1 c.in-Some.ensures.2

pub returns-in-None : goal.returns-in-None
returns-in-None c = whole c.args.line.now c.in-None.ensures
