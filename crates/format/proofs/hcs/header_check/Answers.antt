use Rattle.std.proofs.Common.{replicate, ap, ◌∙◌, rules}
use Rattle.elements.specs.Bits.{bits as bit_ops}
use Rattle.polynomials.specs.Checks.{check}
use Rattle.format.specs.Header.{hcs_generator}
use Rattle.std.proofs.Common.{true}
use Rattle.format.proofs.CheckBits.{hcs_from}
use Rattle.format.proofs.hcs.header_check.Goals as goal

pub returns-clause-answer : goal.returns-clause-answer
returns-clause-answer c =
    let bits = c.checksum.ensures.out ∙ ap (check bit_ops hcs_generator (replicate 16 true)) c.lay_bits.ensures in
    let whole = hcs_from c.args.octets.now c.checksum.new.out _ _ bits c.inverted_octet.ensures c.inverted_octet-2.ensures in
    search (rules, whole)
