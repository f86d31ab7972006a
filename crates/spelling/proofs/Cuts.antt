-- The pieces of a text, in the library's words.
use Rattle.std.proofs.Common.{◌≡◌, ℕ, ◌<◌, ◌≤◌, cond, eqb, List, [], ◌∷◌, length, get_or, Some, None, Option, MatchOption, Bor, refl, ap, ◌∙◌, arith}
use Rattle.std.specs.List.{slice_split, onto_first, slice_get}
use Rattle.std.specs.Option.{option_map}
use Rattle.std.proofs.lemmas.Grind.{common_steps}
use Rattle.std.proofs.lemmas.Option.{gets}
use Rattle.std.proofs.lemmas.List.Splits.{length-slice_split}
use Rattle.spelling.specs.Pieces.{glue, pieces}

glued : (c : ℕ) (ps : List (List ℕ)) → 0 < length ps → onto_first c ps ≡ glue (c ∷ []) ps
glued c [] h = absurd (omega arith)
glued c (p ∷ ps) h = refl

pub pieces_are : (by : ℕ) (t : List ℕ) → slice_split (λ c. eqb c by) t ≡ pieces by t
pieces_are by [] = refl
pieces_are by (c ∷ cs) =
    ap (cond (eqb c by) ([] ∷ slice_split (λ d. eqb d by) cs)) (glued c (slice_split (λ d. eqb d by) cs) (omega (arith, length-slice_split (λ d. eqb d by) cs)))
    ∙ ap (λ ps. cond (eqb c by) ([] ∷ ps) (glue (c ∷ []) ps)) (pieces_are by cs)

pub part_at : (ps : List (List ℕ)) (k : ℕ) (r : Option (Bor (List ℕ))) → option_map (λ u. u.now) r ≡ slice_get ps k → MatchOption r (length ps ≤ k) (λ u. (k < length ps) × (u.now ≡ get_or ps k []))
part_at ps k None e = grind (arith, common_steps, gets)
part_at ps k (Some u) e = grind (arith, common_steps, gets)
