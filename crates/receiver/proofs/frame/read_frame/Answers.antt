use Rattle.std.proofs.Common.{Ok, Err, arith}
use Rattle.std.proofs.lemmas.Result.{err_from_is_err_and}
use Rattle.format.specs.Reading.{header_read}
use Rattle.account.specs.Answers.{HeaderAs}
use Rattle.account.proofs.ReadParts.{head_at, by_preamble, by_head, by_payload, delivers, mended_few}
use Rattle.receiver.proofs.frame.read_frame.Given as given
use Rattle.receiver.proofs.frame.read_frame.Goals as goal
use Rattle.receiver.proofs.frame.read_frame.Goals.{In_ok-head}

pub returns-in_err-mode : goal.returns-in_err-mode
returns-in_err-mode g c =
    let p = err_from_is_err_and c.from_residual.result c.from_residual.ensures.1 in
    rw (p.1, p.2)
    (by_preamble g.M.Mender.rule c.args.mender.now c.args.n c.args.window.chips.now c.args.body.now c.args.mac.now c.requires.blank
    c.in_err-mode.field-0.0 c.in_err-mode.ensures)

pub returns-in_err-head : goal.returns-in_err-head
returns-in_err-head g c =
    let p = err_from_is_err_and c.from_residual-in_err-head.result c.from_residual-in_err-head.ensures.1 in
    rw (p.1, p.2)
    (by_head g.M.Mender.rule c.args.mender.now c.args.n c.args.window.chips.now c.args.body.now c.args.mac.now c.requires.blank
    c.in_ok-mode.mode c.in_ok-mode.ensures c.read_header.new.mender c.in_err-head.field-0.0
    (head_at g.M.Mender.rule c.args.mender.now c.read_header.new.mender c.args.n c.args.window.chips.now c.in-Ok.part.chips.now
    (Err c.in_err-head.field-0.0) c.in-Ok.ensures.1 c.in_err-head.ensures))

-- a header that passes, read from its part of the window
told : (g : given.Over) (c : In_ok-head g)
    → HeaderAs g.M.Mender.rule c.args.mender.now (header_read c.args.n c.args.window.chips.now) (Ok c.in_ok-head.head) c.read_header.new.mender
told g c =
    head_at g.M.Mender.rule c.args.mender.now c.read_header.new.mender c.args.n c.args.window.chips.now c.in-Ok.part.chips.now
    (Ok c.in_ok-head.head) c.in-Ok.ensures.1 c.in_ok-head.ensures

pub returns-in_err-mended : goal.returns-in_err-mended
returns-in_err-mended g c =
    let p = err_from_is_err_and c.from_residual-in_err-mended.result c.from_residual-in_err-mended.ensures.1 in
    rw (p.1, p.2)
    (by_payload g.M.Mender.rule c.args.mender.now c.args.n c.args.window.chips.now c.args.body.now c.args.mac.now c.requires.blank
    c.in_ok-mode.mode c.in_ok-mode.ensures c.read_header.new.mender c.in_ok-head.head (told g (goal.at.returns-in_err-mended g c).In_ok-head)
    c.read.new.mender c.in_err-mended.field-0.0 c.read.new.buffer c.in_err-mended.ensures)

pub overflow_add-result : goal.overflow_add-result
overflow_add-result g c =
    let few =
    mended_few g.M.Mender.rule c.args.mender.now c.args.n c.args.window.chips.now c.args.body.now c.args.mac.now c.requires.blank
    c.in_ok-mode.mode c.in_ok-mode.ensures c.read_header.new.mender c.in_ok-head.head (told g (goal.at.overflow_add-result g c).In_ok-head)
    c.read.new.mender c.in_ok-mended.mended c.read.new.buffer c.in_ok-mended.ensures in
    omega arith

pub returns : goal.returns
returns g c =
    delivers g.M.Mender.rule c.args.mender.now c.args.n c.args.window.chips.now c.args.body.now c.args.mac.now c.requires.blank
    c.in_ok-mode.mode c.in_ok-mode.ensures c.read_header.new.mender c.in_ok-head.head (told g (goal.at.returns g c).In_ok-head)
    c.read.new.mender c.in_ok-mended.mended c.read.new.buffer c.copy_from_slice.new.self c.copy_from_slice.ensures.after
    c.in_ok-mended.ensures
