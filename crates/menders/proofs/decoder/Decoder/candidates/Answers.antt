use Rattle.std.proofs.Common.{ℕ, ◌+◌, ◌≤◌, List, length, take, ◌∙◌, arith}
use Rattle.elements.specs.Octets.{octets, power}
use Rattle.coding.specs.Decoder.{correction, roots, syndrome}
use Rattle.coding.proofs.OctetDecoder.{roots_few}
use Rattle.menders.specs.Locators.{entries, Locates}
use Rattle.menders.proofs.Repairing.{repairs_same}
use Rattle.menders.proofs.Agreement.{locates_same, correction_same}
use Rattle.menders.proofs.decoder.Decoder.candidates.Goals as goal

few_located : (s : ℕ → ℕ) (t n : ℕ) (v : List ℕ) → Locates s t v → n ≤ 240 → length (roots octets power v n) ≤ t
few_located s t n v l short = roots_few t v n l.long l.proper l.some (omega arith)

pub locate-requires-clause-few : goal.locate-requires-clause-few
locate-requires-clause-few g c =
    let s = entries c.syndromes-syndromes.result in
    let t = g.row.REACH in
    omega (arith, few_located s t (length c.args.word.now) _ c.locator-vector.ensures c.requires)

pub returns : goal.returns
returns g c =
    let w = c.args.word.now in
    let n = length w in
    let t = g.row.REACH in
    let s = entries c.syndromes-syndromes.result in
    let v = take (t + 1) c.locator-vector.result in
    let l = c.locator-vector.ensures in
    let σ = syndrome octets power w in
    let agree = c.syndromes-syndromes.ensures in
    let ys = roots octets power v n in
    let few = few_located s t n v l c.requires in
    record {
      vector = v;
      locates = locates_same s σ agree t v c.args.self.now.within l;
      changes = rw (c.locate.ensures.syndromes, c.locate.ensures.vector, c.locate.ensures.len) at c.changes.ensures
          ∙ repairs_same (correction octets s v ys) (correction octets σ v ys) n n (correction_same s σ agree v ys (omega arith));
    }
