use Rattle.std.proofs.Common.{◌≡◌, ◌+◌, min, length, sym, ap, ◌∙◌, arith, length-append}
use Rattle.format.specs.Sequences.{after}
use Rattle.format.proofs.Mixing.{after_add}
use Rattle.slicer.proofs.Groups.{vote_more, vote_done}
use Rattle.slicer.proofs.slicer.voted.Goals as goal

pub loop-k-preserved : goal.loop-k-preserved
loop-k-preserved c =
    let s = c.in-Some.ensures.steps in
    let v = c.loop-k.invariant in
    let rest = c.loop-k.k-iterator.iter.rest.now in
    let g = c.in-Some.group.now in
    let t = c.next.new.self.iter.rest.now in
    let r = c.loop-k.register.bits in
    let cut : length g ≡ min 16 (length rest) = s.0.1.1 ∙ ap (λ n. min n (length rest)) v.0 in
    let long : length rest ≡ length g + length t = ap length s.0.1.0 ∙ length-append g t in
    let more = vote_more rest g t c.loop-k.k-iterator.count c.loop-k.octet r _ (s.0.1.0, cut) (omega arith) v.2 v.3 in
    let run = sym (after_add (length g) (length t) r) ∙ ap (λ n. after n r) (sym long) ∙ v.4 in
    rw (s.1, s.2, c.lit.ensures.sum, c.lit.ensures.bits) (s.0.0 ∙ v.0, omega arith, more.0, more.1, run)

pub returns-clause-octet : goal.returns-clause-octet
returns-clause-octet c = vote_done _ c.loop-k.k-iterator.count _ _ _ c.in-None.ensures.steps.0.1.0 c.loop-k.invariant.3

pub returns-clause-bits : goal.returns-clause-bits
unfolding after
returns-clause-bits c = rw c.in-None.ensures.steps.0.1.0 at c.loop-k.invariant.4
