use Rattle.std.proofs.Common.{Err, string_bytes, sym, ◌∙◌, subst}
use Rattle.lines.specs.declared.wrong.Stop.{Stop}
use Rattle.lines.specs.declared.wrong.Stop.TheVariants.{Wrong as stop_wrong}
use Rattle.calls.specs.Calls.{call_said}
use Rattle.script.specs.Performed.{Answers}
use Rattle.script.proofs.Obeying.{answered, wrong}
use Rattle.script.proofs.desk.Desk.obey.Goals as goal

pub returns-in_ok-write_answer-in-Ok : goal.returns-in_ok-write_answer-in-Ok
returns-in_ok-write_answer-in-Ok c =
    answered c.args.number c.args.line.now c.call_part.result.now (string_bytes c.args.out.now) (string_bytes c.write_answer.new.out)
    (sym c.is_passed_over.ensures ∙ c.if-is_passed_over.false) c.call_part.ensures c.in-Ok.answer c.in-Ok.ensures c.in_ok-write_answer-in-Ok.ensures

pub returns-in_ok-write_wrong-in-Err-Wrong : goal.returns-in_ok-write_wrong-in-Err-Wrong
returns-in_ok-write_wrong-in-Err-Wrong c =
    let said = call_said c.call_part.result.now in
    let told : Answers said (Err (stop_wrong c.in-Err-Wrong.wrong)) = subst (λ (e : Stop). Answers said (Err e)) c.in-Err-Wrong.field-0-is c.in-Err-Wrong.ensures in
    wrong c.args.number c.args.line.now c.call_part.result.now (string_bytes c.args.out.now) (string_bytes c.write_wrong.new.out)
    (sym c.is_passed_over.ensures ∙ c.if-is_passed_over.false) c.call_part.ensures c.in-Err-Wrong.wrong told c.in_ok-write_wrong-in-Err-Wrong.ensures
