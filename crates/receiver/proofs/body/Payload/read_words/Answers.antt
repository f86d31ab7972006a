use Rattle.std.proofs.Common.{◌+◌, arith}
use Rattle.std.proofs.lemmas.Result.{err_from_is_err_and}
use Rattle.account.proofs.BodyRuns.{SoFar, few, more, stops, done}
use Rattle.receiver.proofs.body.Payload.read_words.Given as given
use Rattle.receiver.proofs.body.Payload.read_words.Goals as goal

pub returns-in_err-total : goal.returns-in_err-total
returns-in_err-total g c =
    let p = err_from_is_err_and c.from_residual.result c.from_residual.ensures.1 in
    let whose = c.args.self.now in
    rw (p.1, p.2)
    (stops g.M.Mender.rule c.args.mender.now whose.mode whose.length whose.window.chips.now c.args.body.now
    c.loop-k.k c.loop-k.total c.loop-k.body c.read_word.new.body c.loop-k.mender c.read_word.new.mender (omega arith) c.loop-k.invariant c.in_err-total.field-0.0 c.in_err-total.ensures)

one_more : (g : given.Over) (c : goal.In_ok-total g) → SoFar g.M.Mender.rule c.args.mender.now c.args.self.now.mode c.args.self.now.length c.args.self.now.window.chips.now (c.loop-k.k + 1)
    (c.loop-k.total + c.in_ok-total.field-0) c.args.body.now c.read_word.new.body c.read_word.new.mender
one_more g c =
    let whose = c.args.self.now in
    more g.M.Mender.rule c.args.mender.now whose.mode whose.length whose.window.chips.now c.args.body.now
    c.loop-k.k c.loop-k.total c.loop-k.body c.read_word.new.body c.loop-k.mender c.read_word.new.mender (omega arith) c.loop-k.invariant c.in_ok-total.field-0 c.in_ok-total.ensures

pub overflow_add-total : goal.overflow_add-total
overflow_add-total g c =
    let whose = c.args.self.now in
    omega (
      arith,
      few g.M.Mender.rule c.args.mender.now whose.mode whose.length whose.window.chips.now c.args.body.now (c.loop-k.k + 1) (c.loop-k.total + c.in_ok-total.field-0)
          c.read_word.new.body c.read_word.new.mender (one_more g c),
    )

pub loop-k-preserved : goal.loop-k-preserved
loop-k-preserved g c = one_more g c

pub returns : goal.returns
returns g c =
    let whose = c.args.self.now in
    done g.M.Mender.rule c.args.mender.now whose.mode whose.length whose.window.chips.now c.args.body.now c.loop-k.k c.loop-k.total c.loop-k.body c.loop-k.mender
    (omega arith) (omega arith) c.loop-k.invariant
