use Rattle.std.proofs.Common.{Ok, Err, refl}
use Rattle.std.proofs.lemmas.Result.{err_from_is_err_and}
use Rattle.account.proofs.OneWord.{header_as}
use Rattle.receiver.proofs.header.read_header.Goals as goal

pub returns-in_err-mended : goal.returns-in_err-mended
returns-in_err-mended g c =
    let p = err_from_is_err_and c.from_residual.result c.from_residual.ensures.1 in
    rw (p.1, p.2)
    (header_as g.M.Mender.rule c.args.mender.now c.mend.new.mender c.header_word-word.result _ c.mend.new.word (Err c.in_err-mended.field-0.0) _
    c.header_word-word.ensures c.in_err-mended.ensures refl)

pub returns : goal.returns
returns g c =
    header_as g.M.Mender.rule c.args.mender.now c.mend.new.mender c.header_word-word.result _ c.mend.new.word (Ok c.in_ok-mended.mended) c.judge.result
    c.header_word-word.ensures c.in_ok-mended.ensures c.judge.ensures
