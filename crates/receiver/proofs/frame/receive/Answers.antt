use Rattle.std.proofs.Common.{sym, ◌∙◌, arith}
use Rattle.std.proofs.lemmas.List.{length-take-le}
use Rattle.std.proofs.lemmas.Result.{err_from_is_err_and}
use Rattle.account.specs.Answers.{Passed}
use Rattle.account.proofs.Admission.{ok_admitted, passed, zeroed, roomy_on, cleared_on, cleared_err, cleared_ok, received, refused}
use Rattle.receiver.proofs.frame.receive.Given as given
use Rattle.receiver.proofs.frame.receive.Goals as goal
use Rattle.receiver.proofs.frame.receive.Goals.{In_ok-admit}

pub returns-in_err-admit : goal.returns-in_err-admit
returns-in_err-admit g c =
    let p = err_from_is_err_and c.from_residual.result c.from_residual.ensures.1 in
    rw (p.1, p.2)
    (refused g.M.Mender.rule c.args.mender.now c.args.n c.args.window.now c.args.body.now c.args.mac.now c.in_err-admit.field-0.0 c.in_err-admit.ensures)

-- the door is passed
seen : (g : given.Over) (c : In_ok-admit g) → Passed c.args.n c.args.window.now c.args.body.now c.args.mac.now
seen g c = passed c.args.n c.args.window.now c.args.body.now c.args.mac.now (ok_admitted _ c.in_ok-admit.ensures)

pub slice_bounds-fill-end-2 : goal.slice_bounds-fill-end-2
slice_bounds-fill-end-2 g c = sym (length-take-le 2048 c.args.body.now (seen g (goal.at.slice_bounds-fill-end-2 g c).In_ok-admit).roomy)

pub read_frame-answer-requires : goal.read_frame-answer-requires
read_frame-answer-requires g c =
    let p = seen g (goal.at.read_frame-answer-requires g c).In_ok-admit in
    let k =
    cleared_on c.args.n c.args.window.now c.args.body.now c.args.mac.now c.new.result.chips.now _ c.fill-2.new.self c.new.ensures
    (zeroed c.args.body.now c.fill.new.self p.roomy (c.fill.ensures.after (λ y e. e))) (c.fill-2.ensures.after (λ y e. e)) p in
    record { passed = k.0; blank = k.1 }

pub slice_bounds-fill-end-then-is_err-2 : goal.slice_bounds-fill-end-then-is_err-2
slice_bounds-fill-end-then-is_err-2 g c =
    let p = seen g (goal.at.slice_bounds-fill-end-then-is_err-2 g c).In_ok-admit in
    let later = c.read_frame-answer.new.body in
    sym (length-take-le _ later (omega (arith, roomy_on c.args.body.now c.fill.new.self later p.roomy c.fill.auto.self c.read_frame-answer.auto.body)))

pub returns-then-is_err : goal.returns-then-is_err
returns-then-is_err g c =
    let p = seen g (goal.at.returns-then-is_err g c).In_ok-admit in
    let body = c.args.body.now in
    let later = c.read_frame-answer.new.body in
    let room = roomy_on body c.fill.new.self later p.roomy c.fill.auto.self c.read_frame-answer.auto.body in
    received g.M.Mender.rule c.args.mender.now c.read_frame-answer.new.mender c.args.n c.args.window.now body c.args.mac.now
    c.new.result.chips.now _ c.fill-2.new.self c.read_frame-answer.result later c.read_frame-answer.new.mac _
    (ok_admitted _ c.in_ok-admit.ensures) c.new.ensures (zeroed body c.fill.new.self p.roomy (c.fill.ensures.after (λ y e. e)))
    (zeroed later c.fill-then-is_err.new.self room (c.fill-then-is_err.ensures.after (λ y e. e)) ∙ sym (cleared_err c.read_frame-answer.result later (sym c.is_err.ensures.value ∙ c.if-is_err.true)))
    c.read_frame-answer.ensures

pub returns-else-is_err : goal.returns-else-is_err
returns-else-is_err g c =
    let p = seen g (goal.at.returns-else-is_err g c).In_ok-admit in
    let later = c.read_frame-answer.new.body in
    received g.M.Mender.rule c.args.mender.now c.read_frame-answer.new.mender c.args.n c.args.window.now c.args.body.now c.args.mac.now
    c.new.result.chips.now _ c.fill-2.new.self c.read_frame-answer.result later c.read_frame-answer.new.mac later
    (ok_admitted _ c.in_ok-admit.ensures) c.new.ensures (zeroed c.args.body.now c.fill.new.self p.roomy (c.fill.ensures.after (λ y e. e)))
    (sym (cleared_ok c.read_frame-answer.result later (sym c.is_err.ensures.value ∙ c.if-is_err.false)))
    c.read_frame-answer.ensures
