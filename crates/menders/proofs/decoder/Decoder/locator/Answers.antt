use Rattle.std.proofs.Common.{◌∙◌, arith}
use Rattle.menders.specs.Locators.{entries}
use Rattle.menders.proofs.Narrowing.{rows_left, first_locates}
use Rattle.menders.proofs.decoder.Decoder.locator.Goals as goal

pub bounds-deref-0 : goal.bounds-deref-0
bounds-deref-0 g c =
    rows_left (entries c.args.syndromes.now) g.row.REACH 9 c.deref.result.now c.fits-syndromes (omega arith) (c.deref.ensures.0 ∙ c.solutions.ensures)

pub returns : goal.returns
returns g c =
    first_locates (entries c.args.syndromes.now) g.row.REACH 9 c.deref.result.now c.fits-syndromes (omega arith) (c.deref.ensures.0 ∙ c.solutions.ensures)
