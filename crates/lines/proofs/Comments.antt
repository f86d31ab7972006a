-- A line up to its comment.
use Rattle.std.proofs.Common.{◌≡◌, ℕ, suc, zero, ◌+◌, ◌-◌, ◌<◌, true, false, eqb, List, [], ◌∷◌, length, take, sym, refl, ap, ◌∙◌, arith}
use Rattle.std.proofs.lemmas.Bool.{cond-true, cond-false, and_right}
use native.Mathlib.Numerals.{unary_clauses}
use Rattle.lines.specs.Lines.{begins_comment, NoneBelow, uncommented}

next : (c : ℕ) (cs : List ℕ) (i : ℕ) → begins_comment (c ∷ cs) (suc i) ≡ begins_comment cs i
next c cs i = simp unary_clauses

pub up_to : (t : List ℕ) (i : ℕ) → i + 1 < length t → begins_comment t i ≡ true → NoneBelow i t → take i t ≡ uncommented t
up_to [] i lt here before = absurd (omega arith)
up_to (c ∷ cs) zero lt here before = sym (cond-true _ _ _ here)
up_to (c ∷ cs) (suc i) lt here before =
    ap (λ (ds : List ℕ). c ∷ ds) (up_to cs i (omega arith) (sym (next c cs i) ∙ here) (λ k h. sym (next c cs k) ∙ before (suc k) (omega arith)))
    ∙ sym (cond-false _ _ _ (before 0 (omega arith)))

pub whole : (t : List ℕ) → NoneBelow (length t - 1) t → t ≡ uncommented t
whole [] none = refl
whole (c ∷ []) none = sym (cond-false _ _ _ (and_right (eqb c 32) false refl))
whole (c ∷ (d ∷ ds)) none =
    ap (λ (es : List ℕ). c ∷ es) (whole (d ∷ ds) (λ k h. sym (next c (d ∷ ds) k) ∙ none (suc k) (omega arith))) ∙ sym (cond-false _ _ _ (none 0 (omega arith)))
