use Rattle.std.proofs.Common.{◌≡◌, ℕ, ◌+◌, ◌-◌, ◌*◌, ◌++◌, replicate, ap, ◌∙◌, arith, length-take}
use Rattle.format.specs.Reading.{word_length, word_read}
use Rattle.slicer.specs.Slices.{masked}
use Rattle.slicer.proofs.Payloads.{masked_same, word_starts, word_more, word_done}
use Rattle.slicer.proofs.slicer.body_word.Goals as goal

pub loop-j-init : goal.loop-j-init
loop-j-init c = word_starts c.args.mode (masked c.args.window.chips.now) (240 * c.args.number) (c.min-size.result + 16) (omega arith)

pub loop-j-preserved : goal.loop-j-preserved
loop-j-preserved c =
    rw c.octet.ensures
    (word_more c.args.mode (masked c.args.window.chips.now) c.loop-j.octet-items (240 * c.args.number) (c.min-size.result + 16) c.loop-j.j (omega (arith, length-take {A = ℕ})) c.loop-j.invariant)

pub returns : goal.returns
returns c =
    let w = c.args.window.chips.now in
    let m = c.args.mode in
    let L = c.args.length in
    let k = c.args.number in
    let size : c.min-size.result + 16 ≡ word_length L k = omega arith in
    let out = word_done m (masked w) c.loop-j.octet-items L k (c.min-size.result + 16) c.loop-j.j size (omega (arith, length-take {A = ℕ})) c.loop-j.invariant in
    record { size = size; out = out; read = λ good. out ∙ ap (λ l. word_read m L l k ++ replicate (240 - word_length L k) 0) (masked_same w good) }
