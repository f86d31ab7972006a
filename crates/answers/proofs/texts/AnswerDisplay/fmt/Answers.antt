use Rattle.answers.proofs.texts.AnswerDisplay.fmt.Goals as goal

pub returns-in-Row-clause-writes : goal.returns-in-Row-clause-writes
returns-in-Row-clause-writes g c = rw c.in-Row.is c.write-in-Row.ensures.writes

pub returns-in-Count-clause-writes : goal.returns-in-Count-clause-writes
returns-in-Count-clause-writes g c = rw c.in-Count.is c.write-in-Count.ensures.writes
