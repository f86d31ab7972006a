use Rattle.std.proofs.Common.{◌≡◌, ◌*◌, eqb, length, take, drop, Some, ap, ◌∙◌, ap₂, arith, length-take, length-drop}
use Rattle.std.proofs.lemmas.Bool.{eq-eqb, cond-true}
use Rattle.std.proofs.lemmas.List.{take_all}
use Rattle.elements.specs.Octets.{octets}
use Rattle.polynomials.specs.Differences.{differing}
use Rattle.format.specs.Header.{hcs}
use Rattle.slicer.proofs.opened.is_right.Goals as goal

pub returns : goal.returns
returns c =
    let m = c.args.message.now in
    let long = length-take 14 m in
    let found : c.header_check.result ≡ Some (hcs (take 14 m)) = c.header_check.ensures.answer ∙ cond-true _ _ _ (eq-eqb 112 (8 * length (take 14 m)) (omega arith)) in
    let asked : c.unwrap-asked.result ≡ hcs (take 14 m) = cc in
    let read = take_all 2 (drop 14 m) (omega (arith, length-drop 14 m)) in
    ap (λ n. eqb n 0) (c.differences.ensures ∙ ap₂ (differing octets) read asked)
