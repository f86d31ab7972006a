use Rattle.account.proofs.BodyRuns.{SoFar}
use Rattle.receiver.proofs.body.Payload.read_words.Given as goal

abbrev pub invariant-loop-k : goal.invariant-loop-k
invariant-loop-k g l = SoFar g.M.Mender.rule l.initial.mender l.self.mode l.self.length l.self.window.chips.now l.k l.total l.initial.body l.body l.mender
