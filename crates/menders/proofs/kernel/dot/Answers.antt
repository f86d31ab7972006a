use Rattle.std.proofs.Common.{◌∙◌, inl, inr}
use Rattle.menders.proofs.RowSteps.{dot_done}
use Rattle.menders.proofs.kernel.dot.Goals as goal

pub returns : goal.returns
returns c = elim c.in-None.ensures.steps [
  | inl h ↦ dot_done c.loop-r.sum _ _ (inl h.1.0) ∙ c.loop-r.invariant
  | inr h ↦ dot_done c.loop-r.sum _ _ (inr h.1.0) ∙ c.loop-r.invariant
]
