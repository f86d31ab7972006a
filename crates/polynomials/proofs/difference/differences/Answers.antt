use Rattle.std.proofs.Common.{◌+◌, true, false, arith}
use Rattle.polynomials.proofs.Rows.{differing_next, differing_past}
use Rattle.polynomials.proofs.difference.differences.Goals as goal

pub loop-i-preserved : goal.loop-i-preserved
loop-i-preserved g c =
    let o = g.E.Element.ops in
    let a = c.args.a.now in
    let b = c.args.b.now in
    let i = c.loop-i.i in
    elim c.if-i-b.branch [
      | goal.then-i-b+then-not-same w ↦
          omega (arith, w.n-is, differing_next o a b i _ _ false c.loop-i-test.true w.if-i-b.true c.index-a-i.is w.index-b-i.is w.if-not-same.ensures)
      | goal.else-i-b w ↦ elim w.else-i-b.branch [
        | goal.else-i-b-via-then-i-b+else-not-same v ↦
            omega (arith, w.n-is, differing_next o a b i _ _ true c.loop-i-test.true v.if-i-b.true c.index-a-i.is v.index-b-i.is v.if-not-same.ensures)
        | goal.else-i-b-via-else-i-b v ↦
            omega (arith, w.n-is, differing_past o a b i i v.if-i-b.false, differing_past o a b (i + 1) (i + 1) (omega (arith, v.if-i-b.false)))
      ]
    ]
