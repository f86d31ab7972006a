use Rattle.std.proofs.Common.{◌+◌, ◌-◌, ◌*◌, ◌++◌, length, replicate, ap, ◌∙◌, ap₂}
use Rattle.format.specs.Sequences.{mixed}
use Rattle.std.proofs.lemmas.List.{drop-replicate}
use Rattle.frames.proofs.payload.Payload.carried.Goals as goal

pub returns : goal.returns
returns c = ap₂ ◌++◌ c.write_words.ensures (c.mix.ensures.octets ∙ ap (mixed c.args.self.now.behind.bits) (c.split_at_mut-coded.ensures.back ∙ drop-replicate _ 2223 0 ∙ ap (λ n. replicate (2223 - (length c.args.self.now.body.now + 16 * n)) 0) c.word_count.ensures))
