use Rattle.std.proofs.Common.{◌≡◌, ◌++◌, length, get_or, drop, arith, length-drop}
use Rattle.polynomials.proofs.Streams.{laid_is}
use Rattle.polynomials.proofs.check.lay_out.Goals as goal

pub returns : goal.returns
returns g c =
    let reg = c.args.register.now in
    let tail = drop (length reg) c.args.row.now in
    let first : c.index-row-0.result ≡ get_or (reg ++ tail) 0 c.index-row-0.result = cc in
    let made = laid_is g.E.Element.ops reg tail c.args.x c.index-row-0.result (omega arith) (simp length-drop (omega arith)) first in
    cc
