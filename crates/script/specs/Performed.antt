-- What becomes of a line.
use Rattle.std.specs.Prelude.{◌≡◌, ℕ, Bool, true, false, ◌⊎◌, List, ◌++◌, Ok, Err, codes, decimal, Result}
use Rattle.chosen.specs.Leaves.{leaf_reach}
use Rattle.chosen.specs.Piles.{pile_reach}
use Rattle.lines.specs.declared.wrong.Stop.{Stop}
use Rattle.lines.specs.declared.wrong.Stop.TheVariants.{Wrong as stop_wrong, Memory}
use Rattle.lines.specs.declared.wrong.Wrong.{Wrong}
use Rattle.lines.specs.declared.wrong.Wrong.TheVariants.{Station}
use Rattle.calls.specs.Calls.{Said, opens, builds, reads, asks_mode, asks_refusal, header_part, block_part, encodes, asks_codeword, checks, proposes, accepts, mends, Mending, call_said}
use Rattle.lines.specs.Lines.{passed_over, uncommented}
use Rattle.lines.specs.Wrongs.{wrong_text}
use Rattle.answers.specs.declared.answer.Answer.{Answer}
use Rattle.answers.specs.Texts.{answer_text}
use Rattle.script.specs.declared.desk.Outcome.{Outcome}
use Rattle.script.specs.declared.desk.Outcome.TheVariants.{PassedOver, Answered, NoCall}
use Rattle.script.specs.Words.{encode_text, codeword_text, hcs_text, accept_text, Proposes, MendsAs}
use Rattle.script.specs.Windows.{header_text, block_text}

abbrev pub opened_text : Mending → List ℕ
opened_text m = codes "opened reach=" ++ decimal (pile_reach (pile_reach (pile_reach leaf_reach)) m)

-- the text that a call answers with, where it is promised
abbrev pub Performed : Said → List ℕ → Type 0
Performed (opens m) text = text ≡ opened_text m
Performed (header_part n w) text = text ≡ header_text n w
Performed (block_part m k w) text = text ≡ block_text m k w
Performed (asks_codeword w) text = text ≡ codeword_text w
Performed (checks os) text = text ≡ hcs_text os
Performed (builds mode aggregation mac body room) text = Unit {0}
Performed (reads n window body mac) text = Unit {0}
Performed (asks_mode m) text = Unit {0}
Performed (asks_refusal n) text = Unit {0}
Performed (encodes m room) text = text ≡ encode_text m room
Performed (proposes m w) text = Proposes m w text
Performed (accepts w cs) text = text ≡ accept_text w cs
Performed (mends m w) text = MendsAs m w text

-- what is answered to what the words say: a call on a station may find none open
abbrev pub Answers : Result Said Wrong → Result Answer Stop → Type 0
Answers (Ok s) (Ok a) = Performed s (answer_text a)
Answers (Ok s) (Err (stop_wrong v)) = v ≡ Station
Answers (Ok s) (Err (Memory e)) = Unit {0}
Answers (Err w) (Ok a) = ⊥
Answers (Err w) (Err (stop_wrong v)) = v ≡ w
Answers (Err w) (Err (Memory e)) = Unit {0}

-- what is said of line n
abbrev pub wrong_line : ℕ → Wrong → List ℕ
wrong_line n w = codes "error " ++ (decimal n ++ (codes ": " ++ wrong_text w))

-- the text before and after
abbrev pub BySaid : Result Said Wrong → ℕ → Outcome → List ℕ → List ℕ → Type 0
BySaid (Err w) n o before after = (o ≡ NoCall) × (after ≡ before ++ wrong_line n w)
BySaid (Ok s) n o before after =
    ((o ≡ Answered) × ((text : List ℕ) × Performed s text × (after ≡ before ++ text))) ⊎ ((o ≡ NoCall) × (after ≡ before ++ wrong_line n Station))

abbrev pub ByKind : Bool → ℕ → List ℕ → Outcome → List ℕ → List ℕ → Type 0
ByKind true n line o before after = (o ≡ PassedOver) × (after ≡ before)
ByKind false n line o before after = BySaid (call_said (uncommented line)) n o before after

abbrev pub Obeyed : ℕ → List ℕ → Outcome → List ℕ → List ℕ → Type 0
Obeyed n line o before after = ByKind (passed_over line) n line o before after
