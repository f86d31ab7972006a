use Rattle.std.proofs.Common.{◌≡◌, ◌+◌, ◌<◌, length, drop, sym, ap, ◌∙◌, subst, arith}
use Rattle.std.specs.List.{AllByRecursion as Each}
use Rattle.std.proofs.lemmas.List.{drop_all}
use Rattle.std.proofs.ByRecursion.{All-drop, All-get_or}
use Rattle.polynomials.specs.Checks.{check, stepped}
use Rattle.polynomials.proofs.Rows.{drop_read}
use Rattle.polynomials.proofs.Streams.{check_more, check_done}
use Rattle.polynomials.proofs.check.take_in.Goals as goal

pub loop-x-preserved : goal.loop-x-preserved
loop-x-preserved g c =
    let o = g.C.Element.Element.ops in
    let ok = g.C.Element.Element.ok in
    let gen = g.C.Check.generator in
    let law = g.met.C.Check.generates in
    let reg = c.loop-x.register in
    let msg = c.args.message.now in
    let i = c.loop-x.x-index in
    let x = c.x-item.result in
    let size : length c.loop-x.register ≡ g.C.Check.DEGREE = omega (arith, ap length c.requires.0, g.met.C.Check.generates.preset_long) in
    let some : 0 < length c.loop-x.register = omega (arith, size, g.met.C.Check.generates.some) in
    let long : length g.C.Check.generator ≡ length c.loop-x.register + 1 = omega (arith, size, g.met.C.Check.generates.long) in
    let step : c.absorb.new.register ≡ stepped o gen reg x = c.absorb.ensures ∙ ap (λ l. stepped o l reg x) c.requires.2 in
    let more = check_more g.met.C.Element.Element.laws gen reg (drop (i + 1) msg) x some long law.proper c.loop-x.invariant.1
    (subst ok (sym c.x-item.is) (All-get_or ok msg i x c.loop-x-test.true c.all_proper.ensures)) (All-drop ok (i + 1) msg c.all_proper.ensures) in (
      ap (λ l. check o gen l (drop (i + 1) msg)) step ∙ more.0 ∙ ap (check o gen reg) (sym (drop_read msg i x c.loop-x-test.true c.x-item.is)) ∙ c.loop-x.invariant.0,
      subst (Each ok) (sym step) more.1,
    )

pub returns : goal.returns
returns g c =
    let o = g.C.Element.Element.ops in
    let gen = g.C.Check.generator in
    let long : length g.C.Check.generator ≡ length c.loop-x.register + 1 = omega (arith, ap length c.requires.0, g.met.C.Check.generates.preset_long, g.met.C.Check.generates.long) in
    sym (check_done g.met.C.Element.Element.laws gen c.loop-x.register long c.loop-x.invariant.1)
    ∙ ap (check o gen c.loop-x.register) (sym (drop_all c.loop-x.x-index c.args.message.now c.loop-x-test.false)) ∙ c.loop-x.invariant.0
