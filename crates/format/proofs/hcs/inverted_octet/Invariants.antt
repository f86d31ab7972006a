use Rattle.std.proofs.Common.{◌≡◌, ◌+◌, ◌*◌, ◌^◌, ◌<◌, not, map, drop}
use Rattle.format.specs.Sequences.{value}
use Rattle.format.specs.Bits.{bit_of}
use Rattle.format.proofs.hcs.inverted_octet.Given as goal

abbrev pub invariant-loop-k : goal.invariant-loop-k
invariant-loop-k l =
    (l.octet < 2 ^ l.k)
    × (l.octet + 2 ^ l.k * value (map (λ t. bit_of (not t)) (drop l.k l.bits)) ≡ value (map (λ t. bit_of (not t)) l.bits))
