use Rattle.std.proofs.Common.{refl}
use Rattle.coding.proofs.LeastDistance.{one_within}
use Rattle.coding.proofs.mendable.Goals as goal

pub returns : goal.returns
returns c = record { value = refl; only_one = one_within }
