use Rattle.std.proofs.Common.{◌≡◌, ◌*◌, ◌++◌, take, drop}
use Rattle.format.specs.Sequences.{after, mixed}
use Rattle.format.proofs.sequence.mix.Given as goal

abbrev pub invariant-loop-o : goal.invariant-loop-o
invariant-loop-o l =
    (take l.o-index l.octets ++ mixed l.register.bits (drop l.o-index l.octets) ≡ mixed l.initial.register.bits l.initial.octets)
    × (l.register.bits ≡ after (8 * l.o-index) l.initial.register.bits)
