use Rattle.std.proofs.Common.{false, arith}
use Rattle.std.proofs.lemmas.List.{ext_get_or}
use Rattle.std.proofs.lemmas.Grind.{common_steps}
use Rattle.format.proofs.BitPlaces.{flag_at, length_flags}
use Rattle.format.proofs.hcs.lay_bits.Goals as goal

pub loop-i-preserved : goal.loop-i-preserved
loop-i-preserved c = λ k h.
    let here = flag_at c.args.octets.now c.loop-i.i (omega arith) in
    grind (arith, common_steps, c.loop-i.invariant, here)

pub returns : goal.returns
returns c = ext_get_or false c.loop-i.room _ (omega (arith, length_flags c.args.octets.now)) (λ k h. c.loop-i.invariant k (omega arith))
