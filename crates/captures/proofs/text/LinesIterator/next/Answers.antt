use Rattle.std.proofs.Common.{◌≡◌, ℕ, ◌+◌, ◌<◌, List, length, sym, ap, ◌∙◌, arith, length-drop, rules}
use Rattle.std.proofs.lemmas.Bool.{eqb-false}
use Rattle.captures.specs.Lines.{place, behind}
use Rattle.captures.proofs.text.LinesIterator.next.Goals as goal
use Rattle.std.proofs.iter.Next.{firm}

-- what is left gets shorter
falls : (text rest : List ℕ) → (length text ≡ 0 → ⊥) → rest ≡ behind 10 text → length rest < length text
unfolding behind
falls text rest h e = let n = ap length e ∙ length-drop (place 10 text + 1) text in omega arith

pub returns : goal.returns
returns c =
    let text = c.args.self.now.rest.now in
    let rest = c.split_line.result.1.now in
    let some : length text ≡ 0 → ⊥ = eqb-false (length text) 0 (sym c.if-is_empty.ensures) in
    record {
      steps = (omega arith, c.split_line.ensures.line, c.split_line.ensures.rest);
      goes = firm ((tt, tt, falls text rest some c.split_line.ensures.rest)) (λ h. search rules);
    }
