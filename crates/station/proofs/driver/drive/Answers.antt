use Rattle.std.proofs.Common.{◌∙◌, arith}
use Rattle.std.proofs.lemmas.List.{length-set}
use Rattle.std.proofs.lemmas.Bool.{eq-eqb}
use Rattle.station.proofs.Drives.{driven_next, driven_all, driven_runs, drives}
use Rattle.station.proofs.driver.drive.Goals as goal

pub loop-i-preserved : goal.loop-i-preserved
loop-i-preserved g c = (
  driven_next g.M.Mender.rule c.args.station.now c.loop-i.station c.obey.new.station c.args.orders.now c.loop-i.i _ _ _ _ c.loop-i.log c.obey.result
      (omega arith) (c.loop-i.invariant.1 ∙ c.if-log-orders.false) c.loop-i.invariant.0 c.obey.ensures,
  length-set c.loop-i.log c.loop-i.i c.obey.result ∙ c.loop-i.invariant.1,
)

pub returns : goal.returns
returns g c =
    let all = driven_all g.M.Mender.rule c.args.station.now c.loop-i.station c.args.orders.now c.loop-i.i _ _ c.loop-i.log (omega arith) (c.loop-i.invariant.1 ∙ c.if-log-orders.false) c.loop-i.invariant.0 in
    record { driven = drives g.M.Mender.rule c.args.station.now c.loop-i.station c.args.orders.now _ _ c.args.log.now c.loop-i.log _ (eq-eqb _ _ c.if-log-orders.false) all; run = λ e. driven_runs g.M.Mender.rule c.args.station.now c.loop-i.station c.args.orders.now _ _ c.loop-i.log all }
