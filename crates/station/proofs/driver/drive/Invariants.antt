use Rattle.std.proofs.Common.{◌≡◌, length, take}
use Rattle.station.specs.Orders.{Driven}
use Rattle.station.proofs.driver.drive.Given as goal

abbrev pub invariant-loop-i : goal.invariant-loop-i
invariant-loop-i g l =
    Driven g.M.Mender.rule l.initial.station (take l.i l.orders) (record { mac = l.initial.mac; body = l.initial.body; chips = l.initial.chips }) (take l.i l.log)
    (record { mac = l.mac; body = l.body; chips = l.chips }) l.station
    × (length l.log ≡ length l.initial.log)
