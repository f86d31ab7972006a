use Rattle.std.proofs.Common.{◌+◌, ◌*◌, take, refl, ap, ◌∙◌}
use Rattle.format.specs.Reading.{code_at}
use Rattle.windows.proofs.Cuts.{from_place, up_to}
use Rattle.windows.proofs.window.Window.code.Goals as goal

pub returns : goal.returns
unfolding code_at
returns c =
    let w = c.args.self.now.chips.now in
    let rest = ap (λ r. r.now) c.unwrap_or-chips.ensures ∙ from_place w (2048 * c.args.n + 128 * c.args.k) c.get.result _ refl c.get.ensures.lookup in
    ap (λ r. r.now) c.unwrap_or.ensures ∙ up_to c.unwrap_or-chips.result 128 c.get-2.result c.get-2.ensures.lookup ∙ ap (take 128) rest
