-- The two laws are proved in OnlyOne and in ReadsBack.
use Rattle.std.proofs.Common.{refl}
use Rattle.format.proofs.OnlyOne.{one_fits}
use Rattle.format.proofs.ReadsBack.{frames_read_back}
use Rattle.format.proofs.laws.fitting_reach.Goals as goal

pub returns : goal.returns
returns c = record { value = refl; only_one = one_fits; reads_back = frames_read_back }
