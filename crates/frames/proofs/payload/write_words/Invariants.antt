use Rattle.std.proofs.Common.{◌≡◌, ◌+◌, ◌*◌, ◌≤◌, length, take, drop}
use Rattle.format.specs.Payload.{coded}
use Rattle.frames.proofs.payload.write_words.Given as goal

abbrev pub invariant-loop-k : goal.invariant-loop-k
invariant-loop-k l = record {
  size : l.k-iterator.iter.size ≡ 224;
  rest : l.k-iterator.iter.rest.now ≡ drop (224 * l.k-iterator.count) l.body;
  few : 224 * l.k-iterator.count ≤ length l.body + 223;
  front : take (length (coded l.k-iterator.count l.body)) l.octets ≡ coded l.k-iterator.count l.body;
}
