use Rattle.std.proofs.Common.{◌≡◌, arith}
use Rattle.format.specs.Reading.{block_place}
use Rattle.windows.proofs.Blocks.{block_cut}
use Rattle.windows.proofs.window.Window.block_of.Goals as goal

pub returns : goal.returns
returns c =
    let rest = c.in_ok-get.ensures.lookup in
    let block = c.in_ok-block.ensures.lookup in
    let place : c.in_ok-place.place ≡ block_place c.args.mode c.args.number = grind arith in
    block_cut c.args.mode c.args.number c.args.self.now.chips.now c.in_ok-get.field-0.now c.in_ok-block.block.now c.in_ok-place.place c.spread-spread.result
    place c.spread-spread.ensures rest.0.2 rest.0.3 block.0.1 block.0.2
