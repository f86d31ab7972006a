-- The message of the header word, put together from its pieces.
use Rattle.std.proofs.Common.{◌≡◌, ℕ, ◌+◌, ◌*◌, true, cond, eqb, List, ◌++◌, length, take, drop, Some, None, Option, sym, ap, ◌∙◌, ap₂, arith}
use borrow.Rule.Slice.PartMut.{put_mid}
use Rattle.std.proofs.lemmas.List.{length-append, append_assoc, take_at, drop_at, take_all}
use Rattle.std.proofs.lemmas.Bool.{eq-eqb, cond-true}
use Rattle.format.specs.Sequences.{mixed, scrambler}
use Rattle.format.specs.Header.{hcs, header_message}
use Rattle.format.proofs.Lengths.{length_hcs}
use Rattle.frames.proofs.Fronts.{piece_last}

pub message_done : (seed r : ℕ) (phy mac sum tail : List ℕ) (answer : Option (List ℕ)) → length phy ≡ 4 → length mac ≡ 10
    → answer ≡ cond (eqb 112 (8 * length (phy ++ mac))) (Some (hcs (phy ++ mac))) None → answer ≡ Some sum
    → r ≡ scrambler seed → tail ≡ mixed r (take 12 (drop 4 (phy ++ mac ++ sum)))
    → put_mid 4 12 (phy ++ mac ++ sum) tail ≡ header_message seed phy mac
unfolding header_message
message_done seed r phy mac sum tail answer ep em ea es er et =
    let rest = mac ++ hcs (phy ++ mac) in
    let fits : eqb 112 (8 * length (phy ++ mac)) ≡ true = eq-eqb 112 (8 * length (phy ++ mac)) (omega (arith, length-append phy mac)) in
    let known : Some sum ≡ Some (hcs (phy ++ mac)) = sym es ∙ ea ∙ cond-true _ _ _ fits in
    let same : sum ≡ hcs (phy ++ mac) = cc in
    let whole : phy ++ mac ++ sum ≡ phy ++ rest = append_assoc phy mac sum ∙ ap (λ l. phy ++ (mac ++ l)) same in
    let twelve : length rest ≡ 12 = length-append mac (hcs (phy ++ mac)) ∙ ap₂ (λ a b. a + b) em (length_hcs (phy ++ mac)) in
    let tailed : tail ≡ mixed (scrambler seed) rest =
    et ∙ ap₂ (λ k l. mixed k (take 12 l)) er (ap (drop 4) whole ∙ drop_at phy rest 4 ep) ∙ ap (mixed (scrambler seed)) (take_all 12 rest (omega (arith, twelve))) in
    ap (λ l. put_mid 4 12 l tail) whole ∙ piece_last (phy ++ rest) tail phy 4 12 (omega (arith, length-append phy rest, twelve)) (take_at phy rest 4 ep) ∙ ap (λ l. phy ++ l) tailed
