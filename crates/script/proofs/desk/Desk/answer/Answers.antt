use Rattle.calls.specs.Calls.{call_said}
use Rattle.std.proofs.lemmas.Result.{err_from_is_err_and}
use Rattle.script.proofs.Obeying.{not_read}
use Rattle.script.proofs.desk.Desk.answer.Goals as goal

pub returns-in_err-call : goal.returns-in_err-call
returns-in_err-call c =
    let p = err_from_is_err_and c.from_residual.result c.from_residual.ensures.1 in
    rw (p.1, p.2) (not_read (call_said c.args.text.now) c.in_err-call.field-0.0 c.in_err-call.ensures)
