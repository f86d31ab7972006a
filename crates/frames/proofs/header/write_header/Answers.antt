use Rattle.std.proofs.Common.{refl, sym, ap, ◌∙◌, arith}
use Rattle.format.specs.Sequences.{after, advanced, spreader}
use Rattle.format.specs.Frame.{header_chips}
use Rattle.format.proofs.Mixing.{after_add}
use Rattle.format.proofs.Lengths.{length_header_chips}
use Rattle.frames.proofs.Fronts.{place_more, all_places}
use Rattle.frames.proofs.ChipPlaces.{header_chip}
use Rattle.frames.proofs.header.write_header.Goals as goal

pub loop-i-init : goal.loop-i-init
unfolding after
loop-i-init c = record { front = refl; register = c.spreader-spreader.ensures }

pub loop-i-preserved : goal.loop-i-preserved
unfolding after
loop-i-preserved c =
    let word = c.args.word.now in
    let i = c.loop-i.i in
    record {
      front = place_more c.loop-i.chips (header_chips word) i _ (omega arith) (omega (arith, length_header_chips word c.told-word))
          (header_chip word i c.next.result c.loop-i.spreader.bits c.told-word (omega arith) c.loop-i.invariant.register c.next.ensures.bit) c.loop-i.invariant.front;
      register = c.next.ensures.bits ∙ ap advanced c.loop-i.invariant.register ∙ sym (after_add i 1 spreader);
    }

pub returns : goal.returns
returns c =
    let word = c.args.word.now in
    all_places c.loop-i.chips (header_chips word) c.loop-i.i (omega arith) (omega (arith, length_header_chips word c.told-word)) c.loop-i.invariant.front
