use Rattle.std.proofs.Common.{[], ◌∙◌, arith}
use Rattle.std.proofs.lemmas.Grind.{common_steps}
use Rattle.std.proofs.lemmas.Str.{IsUtf8-from_ascii}
use Rattle.writing.specs.Octets.{octet_written}
use Rattle.writing.proofs.Texts.{octets_ascii, filled, joined}
use Rattle.writing.proofs.octets.digits.Goals as goal

pub loop-i-preserved : goal.loop-i-preserved
loop-i-preserved c = λ k h. grind (arith, common_steps, c.loop-i.invariant)

pub unreachable-requires : goal.unreachable-requires
unreachable-requires c =
    let os = c.args.octets.now in
    let pairs = filled octet_written os c.loop-i.pairs [] (omega arith) (λ k h. c.loop-i.invariant k (omega arith)) in
    let text = c.as_flattened.ensures.value ∙ joined os c.loop-i.pairs pairs in
    c.in_default.ensures.cases.0 (rw text (IsUtf8-from_ascii _ (octets_ascii os (λ i. (c.type_inv.octets i).fits))))

pub returns : goal.returns
returns c =
    let os = c.args.octets.now in
    let pairs = filled octet_written os c.loop-i.pairs [] (omega arith) (λ k h. c.loop-i.invariant k (omega arith)) in
    c.in-Ok.ensures.cases.0 ∙ c.as_flattened.ensures.value ∙ joined os c.loop-i.pairs pairs
