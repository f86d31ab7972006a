use Rattle.std.proofs.Common.{◌≡◌}
use Rattle.format.specs.Sequences.{after}
use Rattle.format.proofs.sequence.Register.skip.Given as goal

abbrev pub invariant-loop : goal.invariant-loop
invariant-loop l = l.self.bits ≡ after l.counter l.initial.self.bits
