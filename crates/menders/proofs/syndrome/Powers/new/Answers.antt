use Rattle.std.proofs.Common.{◌≡◌, refl, ap, ◌∙◌, arith, length-set}
use Rattle.std.proofs.lemmas.List.Edits.{fill_by_more}
use Rattle.elements.specs.Octets.{power, product}
use Rattle.menders.proofs.RowSteps.{power_first, power_next}
use Rattle.menders.proofs.syndrome.Powers.new.Goals as goal

pub loop-a-init : goal.loop-a-init
loop-a-init c = (refl, power_first, λ k h. absurd (omega arith))

pub loop-a-preserved : goal.loop-a-preserved
loop-a-preserved c =
    let i = c.loop-a.a-index in
    let e : c.loop-a.next ≡ power c.loop-a.a-index = c.loop-a.invariant.1 in (
      length-set c.loop-a.a-items i _ ∙ c.loop-a.invariant.0,
      c.mul-next.ensures ∙ ap (λ a. product a 2) e ∙ power_next i,
      rw e (fill_by_more power c.loop-a.a-items i 0 (omega arith) c.loop-a.invariant.2),
    )
