use Rattle.std.proofs.Common.{◌≡◌, ◌+◌, ◌-◌, ◌*◌, ◌<◌, take, drop, length, sym, ap, ap₂, ◌∙◌, arith, length-drop}
use Rattle.std.proofs.lemmas.List.{drop-drop, length-take-le}
use Rattle.elements.specs.Octets.{octets}
use Rattle.coding.specs.Kernel.{kernel_rows, eliminate_rows}
use Rattle.coding.specs.Decoder.{windows}
use Rattle.menders.specs.Locators.{entries}
use Rattle.menders.proofs.Elimination.{kernel_more}
use Rattle.menders.proofs.Narrowing.{take_units}
use Rattle.menders.proofs.decoder.Decoder.solutions.Goals as goal

pub loop-equation-preserved : goal.loop-equation-preserved
loop-equation-preserved g c =
    let i = c.loop-equation.invariant in
    let s = c.args.syndromes.now in
    let t = g.row.REACH in
    let k = i.0 in
    let step = c.in-Some.ensures.steps in
    let rest = i.3 in
    let below : i.0 < g.row.REACH =
    omega (arith, step.1.0, i.2, ap length rest, length-drop k (take (2 * t) s), length-take-le (2 * t) s (omega arith)) in (
      k + 1,
      omega arith,
      step.0 ∙ i.2,
      step.1.2 ∙ ap (drop 1) rest ∙ drop-drop 1 k (take (2 * t) s),
      kernel_more s (2 * t) (t + 1) t k c.loop-equation.rows.items c.eliminate.new.rows.items below (omega arith) (omega arith)
          (c.eliminate.ensures ∙ ap (λ r. eliminate_rows octets r c.loop-equation.rows.items) (step.1.1 ∙ ap₂ take i.2 rest)) ∙ i.4,
    )

pub returns : goal.returns
returns g c =
    let i = c.loop-equation.invariant in
    let s = entries c.args.syndromes.now in
    let t = g.row.REACH in
    let k = i.0 in
    let none : g.row.REACH - i.0 ≡ 0 =
    omega (arith, c.in-None.ensures.steps.1.0, i.2, ap length i.3, length-drop k (take (2 * t) c.args.syndromes.now), length-take-le (2 * t) c.args.syndromes.now (omega arith)) in
    sym (ap (λ m. kernel_rows octets (windows s (t + 1) k m) c.loop-equation.rows.items) none) ∙ i.4
    ∙ ap (kernel_rows octets (windows s (t + 1) 0 t))
    (c.truncate.ensures.items ∙ ap (take (t + 1)) c.from-rows.ensures.0 ∙ take_units octets 9 9 0 (t + 1) (omega arith))
