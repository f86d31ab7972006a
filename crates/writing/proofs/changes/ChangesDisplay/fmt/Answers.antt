use Rattle.std.proofs.Common.{get_or, rules}
use Rattle.std.proofs.Output.{has_written_append, has_written_of_eq}
use Rattle.words.specs.Changes.{blank}
use Rattle.writing.specs.Changes.{change_written}
use Rattle.writing.proofs.Texts.{changes_more}
use Rattle.writing.proofs.changes.ChangesDisplay.fmt.Goals as goal

pub loop-change-preserved : goal.loop-change-preserved
loop-change-preserved g c = λ plain.
    let so_far = c.loop-change.invariant plain in
    has_written_of_eq _ _ _ _ _ (changes_more (change_written (get_or c.args.self.now.0.now 0 blank)) c.in-Some.rest.now c.loop-change.change-index c.loop-change-test.true)
    (has_written_append _ _ _ _ _ _ so_far (c.in_ok-write-2.ensures.writes so_far.plain (search rules)))
