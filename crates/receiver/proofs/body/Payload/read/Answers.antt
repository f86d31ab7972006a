use Rattle.std.proofs.Common.{arith}
use Rattle.std.proofs.lemmas.List.{length-take-le}
use Rattle.std.proofs.lemmas.Result.{err_from_is_err_and}
use Rattle.account.proofs.PayloadRuns.{payload_stops}
use Rattle.receiver.proofs.body.Payload.read.Goals as goal

pub returns-in_err-mended : goal.returns-in_err-mended
returns-in_err-mended g c =
    let p = err_from_is_err_and c.from_residual.result c.from_residual.ensures.1 in
    let whose = c.args.self.now in
    rw (p.1, p.2)
    (payload_stops g.M.Mender.rule c.args.mender.now c.read_words.new.mender whose.mode whose.seed whose.length whose.window.chips.now c.args.buffer.now
    (omega arith) c.in_err-mended.field-0.0 c.read_words.new.body (omega arith) (omega (arith, length-take-le whose.length c.args.buffer.now (omega arith))) c.in_err-mended.ensures)
