use Rattle.std.proofs.Common.{◌≤◌, ◌≡◌, ◌*◌, ◌<◌, min, length, take, refl, ap, ◌∙◌, arith}
use Rattle.std.proofs.lemmas.List.{length-drop}
use Rattle.format.specs.Payload.{coded}
use Rattle.frames.proofs.BodyWords.{piece_is, left_is, word_more, words_all}
use Rattle.frames.proofs.payload.write_words.Goals as goal

pub loop-k-init : goal.loop-k-init
unfolding coded
loop-k-init c =
    let none : c.into_iter-k-iterator.result.count ≡ 0 = cc in
    rw none record { size = cc; rest = cc; few = omega arith; front = refl }

pub loop-k-preserved : goal.loop-k-preserved
loop-k-preserved c =
    let body = c.args.body.now in
    let rest = c.loop-k.k-iterator.iter.rest.now in
    let k = c.loop-k.k-iterator.count in
    let message = c.in-Some.message.now in
    let left = c.next.new.self.iter.rest.now in
    let step = c.in-Some.ensures.steps in
    let many : length c.in-Some.message.now ≡ min 224 (length c.loop-k.k-iterator.iter.rest.now) = step.0.1.1 ∙ ap (λ n. min n (length rest)) c.loop-k.invariant.size in
    let within : 224 * c.loop-k.k-iterator.count < length c.args.body.now = omega (arith, step.0.1.2, ap length c.loop-k.invariant.rest, length-drop (224 * c.loop-k.k-iterator.count) c.args.body.now) in
    rw (step.1, step.2) record {
      size = step.0.0 ∙ c.loop-k.invariant.size;
      rest = left_is rest message left body k step.0.1.0 many c.loop-k.invariant.rest;
      few = omega arith;
      front = word_more c.loop-k.octets c.write_word.new.word message body k _ (omega arith) (omega arith) (piece_is rest message left step.0.1.0 many ∙ ap (take 224) c.loop-k.invariant.rest)
          c.write_word.ensures c.loop-k.invariant.front;
    }

pub returns : goal.returns
returns c =
    let end : length c.args.body.now ≤ 224 * c.loop-k.k-iterator.count = omega (arith, c.in-None.ensures.steps.0.1.0, ap length c.loop-k.invariant.rest, length-drop (224 * c.loop-k.k-iterator.count) c.args.body.now) in
    words_all c.loop-k.octets c.args.body.now c.loop-k.k-iterator.count end c.loop-k.invariant.few (omega arith) c.loop-k.invariant.front
