use Rattle.std.proofs.Common.{take, Some, ap}
use Rattle.answers.specs.Texts.{proposed_text}
use Rattle.script.proofs.word_calls.propose.Goals as goal

pub returns-in_ok-from_slice-in-Some : goal.returns-in_ok-from_slice-in-Some
returns-in_ok-from_slice-in-Some c =
    (Some (take c.in-Some.n c.propose.new.out), c.propose.new.self, c.in-Some.ensures.rule, ap proposed_text c.in_ok-from_slice-in-Some.ensures.items)
