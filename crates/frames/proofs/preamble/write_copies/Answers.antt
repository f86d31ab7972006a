use Rattle.std.proofs.Common.{◌≡◌, ◌+◌, ◌*◌, ◌/◌, length, sym, ap, ◌∙◌, mul-zero, arith}
use Rattle.std.proofs.Math.Nat.{div-add-mod}
use Rattle.std.proofs.lemmas.List.{take_all}
use Rattle.format.specs.Frame.{copies}
use Rattle.frames.proofs.Fronts.{part_more}
use Rattle.frames.proofs.Preambles.{copies_more}
use Rattle.frames.proofs.preamble.write_copies.Goals as goal

pub loop-i-init : goal.loop-i-init
unfolding copies
loop-i-init g c = rw (mul-zero g.row.N)

pub loop-i-preserved : goal.loop-i-preserved
loop-i-preserved g c =
    let piece = c.args.piece.now in
    let i = c.loop-i.i in
    rw c.copy_from_slice.ensures.after (part_more c.loop-i.chips piece (copies i piece) (copies (i + 1) piece) g.row.N i _ c.told-piece (grind arith) (copies_more i piece) c.loop-i.invariant)

pub returns : goal.returns
returns g c =
    let all : length c.args.chips.now / g.row.N ≡ c.loop-i.i = omega arith in
    let whole : g.row.N * (length c.args.chips.now / g.row.N) ≡ length c.args.chips.now = omega (arith, div-add-mod (length c.args.chips.now) g.row.N) in
    sym (take_all (g.row.N * c.loop-i.i) c.loop-i.chips (rw (← all) (omega arith))) ∙ c.loop-i.invariant ∙ ap (λ k. copies k c.args.piece.now) (sym all)
