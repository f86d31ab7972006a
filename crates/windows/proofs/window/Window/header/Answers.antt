use Rattle.std.proofs.Common.{◌≡◌, ◌+◌, ◌-◌, ◌*◌, refl, arith}
use Rattle.std.proofs.lemmas.Bool.Decides.{nat_tests}
use Rattle.format.specs.Reading.{header_part}
use Rattle.windows.proofs.window.Window.header.Goals as goal

pub returns : goal.returns
unfolding header_part
returns c =
    let e : (2560 * c.args.n + 4096) - 2560 * c.args.n ≡ 4096 = omega arith in
    (grind (arith, nat_tests), rw e, refl)
