use Rattle.std.proofs.Common.{◌≡◌}
use Rattle.format.specs.Sequences.{value, drawn, after}
use Rattle.format.proofs.sequence.Register.octet.Given as goal

abbrev pub invariant-loop-k : goal.invariant-loop-k
invariant-loop-k l = (l.octet ≡ value (drawn l.k l.initial.self.bits)) × (l.self.bits ≡ after l.k l.initial.self.bits)
