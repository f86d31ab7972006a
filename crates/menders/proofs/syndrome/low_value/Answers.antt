use Rattle.std.proofs.Common.{◌≡◌, ◌∙◌, rules}
use lib.Bits.{bit_xor}
use Rattle.std.specs.List.{fold}
use Rattle.std.specs.Prelude.{reverse}
use Rattle.elements.specs.Octets.{product}
use Rattle.menders.proofs.RowSteps.{low_fold}
use Rattle.menders.proofs.syndrome.low_value.Goals as goal

pub returns : goal.returns
returns c =
    let e : c.fold.result ≡ fold (λ s a. bit_xor a (product c.args.x s)) 0 (reverse c.args.row.now) = search rules in
    e ∙ low_fold c.args.row.now c.args.x
