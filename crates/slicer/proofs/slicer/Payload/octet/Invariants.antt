use Rattle.std.proofs.Common.{◌≡◌, ◌+◌, ◌-◌, ◌*◌, ◌^◌, ◌<◌, map}
use Rattle.std.specs.List.{range_with_len}
use Rattle.format.specs.Sequences.{value}
use Rattle.format.specs.Reading.{payload_bit, payload_octet}
use Rattle.slicer.specs.Slices.{masked}
use Rattle.slicer.proofs.slicer.Payload.octet.Given as goal

abbrev pub invariant-loop-k : goal.invariant-loop-k
invariant-loop-k l =
    let w = masked l.self.window.chips.now in
    (l.octet < 2 ^ l.k) × (l.octet + 2 ^ l.k * value (map (λ i. payload_bit l.self.mode w (8 * l.j + i)) (range_with_len l.k (8 - l.k))) ≡ payload_octet l.self.mode w l.j)
