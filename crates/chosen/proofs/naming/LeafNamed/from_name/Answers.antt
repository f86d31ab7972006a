use Rattle.std.proofs.Common.{codes, refl, arith}
use Rattle.std.proofs.lemmas.Slice.Eq.{text_from_reads}
use Rattle.chosen.proofs.naming.LeafNamed.from_name.Goals as goal

pub returns-in-still : goal.returns-in-still
returns-in-still c =
    let read = text_from_reads c.args.text.now (codes "still") (omega arith) (omega arith, (omega arith, (omega arith, (omega arith, (omega arith, tt))))) in
    rw read refl

pub returns-in-single : goal.returns-in-single
returns-in-single c =
    let read = text_from_reads c.args.text.now (codes "single") (omega arith) (omega arith, (omega arith, (omega arith, (omega arith, (omega arith, (omega arith, tt)))))) in
    rw read refl
