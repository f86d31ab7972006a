use Rattle.std.proofs.Common.{refl}
use Rattle.coding.proofs.LeastDistance.{codewords_apart}
use Rattle.coding.proofs.least_distance.Goals as goal

pub returns : goal.returns
returns c = record { value = refl; apart = codewords_apart }
