use Rattle.std.proofs.Common.{◌≡◌, ◌∙◌, rules}
use lib.Bits.{bit_xor}
use Rattle.std.specs.List.{fold}
use Rattle.elements.specs.Octets.{product}
use Rattle.menders.proofs.RowSteps.{horner_fold}
use Rattle.menders.proofs.syndrome.high_value.Goals as goal

pub returns : goal.returns
returns c =
    let e : c.fold.result ≡ fold (λ s a. bit_xor (product s c.args.x) a) 0 c.args.row.now = search rules in
    e ∙ horner_fold 0 c.args.row.now c.args.x
