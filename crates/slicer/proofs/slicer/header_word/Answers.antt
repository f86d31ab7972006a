use Rattle.std.proofs.Common.{◌≡◌, ◌<◌, ◌≤◌, min, length, inl, inr, refl, ⊎_elim, ap, ◌∙◌, arith, ◌⊎◌}
use Rattle.std.proofs.lemmas.Bool.{cases_lt}
use Rattle.slicer.proofs.Groups.{word_starts, word_more, word_done}
use Rattle.slicer.proofs.slicer.header_word.Goals as goal

pub loop-j-init : goal.loop-j-init
loop-j-init c =
    rw (
      c.into_iter-j-iterator.ensures.into_iter_gives,
      c.enumerate-j-items.ensures.source,
      c.enumerate-j-items.ensures.count,
      c.take.ensures.source,
      c.take.ensures.count,
      c.chunks.ensures.size,
      c.chunks.ensures.rest,
      c.spreader-register.ensures,
    )
    (refl, refl, word_starts c.args.part.chips.now)

pub loop-j-preserved : goal.loop-j-preserved
loop-j-preserved c =
    let s = c.in-Some.ensures.steps in
    let v = c.loop-j.invariant in
    let rest = c.loop-j.j-iterator.iter.iter.rest.now in
    let cut : length c.in-Some.chips.now ≡ min 128 (length rest) = s.0.0.1.1 ∙ ap (λ n. min n (length rest)) v.0 in
    let more = word_more rest c.in-Some.chips.now c.next.new.self.iter.iter.rest.now c.loop-j.word c.loop-j.j-iterator.count c.loop-j.register.bits _ (s.0.0.1.0, cut) (omega arith) v.2 in
    rw (s.1, s.2, c.voted.ensures.octet, c.voted.ensures.bits) (s.0.0.0 ∙ v.0, omega arith, more)

pub returns : goal.returns
returns c =
    let s = c.in-None.ensures.steps in
    let v = c.loop-j.invariant in
    let n = c.loop-j.j-iterator.iter.n in
    let j = c.loop-j.j-iterator.count in
    let rest = c.loop-j.j-iterator.iter.iter.rest.now in
    let over : (32 ≤ j) ⊎ (length rest ≡ 0) = ⊎_elim (λ (h : 0 < n). inr (s.0 h).1.0) (λ (h : n ≤ 0). inl (omega arith)) (cases_lt 0 n) in
    word_done rest c.loop-j.word j c.loop-j.register.bits _ over v.2
