use Rattle.std.proofs.Common.{refl}
use Rattle.station.proofs.BuildSteps.{not_built}
use Rattle.station.proofs.station.Station.build.Goals as goal

pub returns-in-Err : goal.returns-in-Err
returns-in-Err g c =
    record {
      account = not_built c.args.self.now.seed _ c.in-Err.e refl c.write_frame.ensures.body c.in-Err.ensures.answer c.write_frame.ensures.chips;
      seed = refl;
      tally = c.refuse.ensures;
      mender = refl;
    }
