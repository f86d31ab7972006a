use Rattle.std.proofs.Common.{rules}
use Rattle.calls.specs.Calls.{asks_mode, asks_refusal, asks_codeword, checks, proposes, mends}
use Rattle.calls.proofs.Nameless.{nameless}
use Rattle.calls.proofs.reader.read_call.Goals as goal

pub returns-in_default : goal.returns-in_default
returns-in_default c = nameless c.args.text.now c.word.result.now c.word.ensures c.in_default.ensures.cases.0

pub returns-in-codeword : goal.returns-in-codeword
returns-in-codeword c = let e = c.read_octets.ensures asks_codeword (λ w call p. search rules) in search rules

pub returns-in-hcs : goal.returns-in-hcs
returns-in-hcs c = let e = c.read_octets-in-hcs.ensures checks (λ w call p. search rules) in search rules

pub returns-in-propose : goal.returns-in-propose
returns-in-propose c = let e = c.read_with_mender.ensures proposes (λ m w call p. search rules) in search rules

pub returns-in-mend : goal.returns-in-mend
returns-in-mend c = let e = c.read_with_mender-in-mend.ensures mends (λ m w call p. search rules) in search rules

pub returns-in-mode : goal.returns-in-mode
returns-in-mode c = let e = c.read_question.ensures asks_mode (λ n call p. search rules) in search rules

pub returns-in-refusal : goal.returns-in-refusal
returns-in-refusal c = let e = c.read_question-in-refusal.ensures asks_refusal (λ n call p. search rules) in search rules
