-- What becomes of a line, from what is answered to its words.
use Rattle.std.proofs.Common.{◌≡◌, ℕ, Bool, false, List, ◌++◌, Ok, Err, Result, sym, refl, ap, ◌∙◌, subst, inl, inr}
use Rattle.lines.specs.declared.wrong.Stop.{Stop}
use Rattle.lines.specs.declared.wrong.Stop.TheVariants.{Wrong as stop_wrong, Memory}
use Rattle.lines.specs.declared.wrong.Wrong.{Wrong}
use Rattle.calls.specs.Calls.{Said, said, call_said}
use Rattle.lines.specs.Lines.{passed_over, uncommented}
use Rattle.calls.specs.Said.{Reads}
use Rattle.answers.specs.declared.answer.Answer.{Answer}
use Rattle.answers.specs.Texts.{answer_text}
use Rattle.script.specs.declared.desk.Outcome.{Outcome}
use Rattle.script.specs.declared.desk.Outcome.TheVariants.{Answered, NoCall}
use Rattle.script.specs.Performed.{Answers, wrong_line, BySaid, ByKind, Obeyed}

-- a line that is not read as a call
pub not_read : (s : Result Said Wrong) (e : Stop) → Reads said s (Err e) → Answers s (Err e)
not_read s (stop_wrong w) r = subst (λ (t : Result Said Wrong). Answers t (Err (stop_wrong w))) (sym r) refl
not_read (Ok s) (Memory e) r = tt
not_read (Err w) (Memory e) r = tt

answered_by : (s : Result Said Wrong) (n : ℕ) (a : Answer) (before after : List ℕ) → Answers s (Ok a) → after ≡ before ++ answer_text a → BySaid s n Answered before after
answered_by (Ok s) n a before after p e = inl (refl, (answer_text a, p, e))
answered_by (Err w) n a before after p e = absurd p

wrong_by : (s : Result Said Wrong) (n : ℕ) (w : Wrong) (before after : List ℕ) → Answers s (Err (stop_wrong w)) → after ≡ before ++ wrong_line n w → BySaid s n NoCall before after
wrong_by (Ok s) n w before after p e = inr (refl, e ∙ ap (λ v. before ++ wrong_line n v) p)
wrong_by (Err v) n w before after p e = (refl, e ∙ ap (λ u. before ++ wrong_line n u) p)

module _ (n : ℕ) (line text before after : List ℕ) (read : passed_over line ≡ false) (cut : text ≡ uncommented line) where
  by_words : (o : Outcome) → BySaid (call_said text) n o before after → Obeyed n line o before after
  by_words o p =
      subst (λ (b : Bool). ByKind b n line o before after) (sym read)
      (subst (λ (t : List ℕ). BySaid (call_said t) n o before after) cut p)

  pub answered : (a : Answer) → Answers (call_said text) (Ok a) → after ≡ before ++ answer_text a → Obeyed n line Answered before after
  answered a p e = by_words Answered (answered_by (call_said text) n a before after p e)

  pub wrong : (w : Wrong) → Answers (call_said text) (Err (stop_wrong w)) → after ≡ before ++ wrong_line n w → Obeyed n line NoCall before after
  wrong w p e = by_words NoCall (wrong_by (call_said text) n w before after p e)
