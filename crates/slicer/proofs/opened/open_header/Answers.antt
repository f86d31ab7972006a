use Rattle.std.proofs.Common.{eqb, take, drop, ap, ◌∙◌, arith}
use Rattle.std.proofs.lemmas.Bool.Decides.{Decides-at}
use Rattle.std.proofs.lemmas.List.{take-take}
use Rattle.std.proofs.lemmas.Option.{MatchOption-at_some}
use Rattle.elements.specs.Octets.{octets}
use Rattle.polynomials.specs.Differences.{differing}
use Rattle.format.specs.Sequences.{mixed}
use Rattle.format.specs.Header.{hcs, joined, unpacked}
use Rattle.slicer.specs.Headers.{header_right}
use Rattle.slicer.proofs.Openings.{phy_is, message_is, mac_is, right_is, right_decides}
use Rattle.slicer.proofs.opened.open_header.Goals as goal

pub returns : goal.returns
returns c =
    let word = c.args.word.now in
    let m = c.unwrap.result.now in
    let front = (MatchOption-at_some _ _ _ c.unwrap.ensures c.first_chunk.ensures.cases).same in
    let sent = (MatchOption-at_some _ _ _ c.unwrap-2.ensures c.first_chunk-2.ensures.cases).same in
    let fields = (MatchOption-at_some _ _ _ c.unwrap-3.ensures c.first_chunk-3.ensures.cases).same ∙ take-take 10 12 _ (omega arith) in
    let phy = phy_is word m c.unpack-phy.result front (c.unpack-phy.ensures ∙ ap (λ l. unpacked (joined l)) sent) in
    let plain = c.mix.ensures.octets ∙ ap (λ r. mixed r (take 12 (drop 4 m))) c.scrambler.ensures in
    let whole = message_is word m c.mix.new.octets c.unpack-phy.result.seed front plain (ap (λ p. p.seed) phy) in
    let right = c.is_right.ensures ∙ ap (λ l. eqb (differing octets (drop 14 l) (hcs (take 14 l))) 0) whole ∙ right_is word c.told-word in
    record {
      phy = phy;
      mac = fields ∙ ap (λ l. take 10 (drop 4 l)) whole ∙ mac_is word c.told-word;
      right = right;
      decides = Decides-at c.is_right.result (header_right word) right (right_decides word c.told-word);
    }
