-- Steps of elimination over rows of octets.
use Rattle.std.proofs.Common.{◌≡◌, ℕ, zero, suc, ◌+◌, ◌-◌, ◌<◌, ◌≤◌, Bool, true, false, cond, not, eqb, List, [], ◌∷◌, ◌++◌, length, get_or, take, drop, Some, None, Option, sym, refl, ap, ◌∙◌, subst, ap₂, add-one, arith, length-append}
use Rattle.std.specs.List.{position, position_from, refill, remove}
use Rattle.std.proofs.ByRecursion.{All-from_get_or}
use Rattle.std.proofs.lemmas.Bool.{eqb-true, eqb-false, not-true, not-false}
use Rattle.std.proofs.lemmas.List.{append-nil, drop_more, drop_all, get_or-take, get_or_default, length-take-le, take_rest}
use Rattle.std.proofs.Math.Seq.{take-append_seam, drop-append_seam}
use Rattle.arrayvec.proofs.ArrayVecLemmas.{items-with_items}
use Rattle.std.proofs.lemmas.List.Quantifiers.{position-Some}
use Rattle.std.proofs.lemmas.Iterator.Adapters.{position_from-zero}
use Rattle.elements.specs.Octets.{octets}
use Rattle.coding.specs.Kernel.{dot, clear_rows, eliminate_rows, kernel_rows}
use Rattle.coding.specs.Decoder.{window, windows}
use Rattle.coding.proofs.KernelRows.{length_clear_rows}
use Rattle.coding.proofs.OctetDecoder.{octets_eliminate_at}
use Rattle.menders.specs.Locators.{entries}

-- a row that does not solve the equation r
abbrev Unsolved : List ℕ → List ℕ → Bool
Unsolved r v = not (eqb (dot octets r v) 0)

none_from : (r : List ℕ) (vs : List (List ℕ)) (i : ℕ) → position_from (Unsolved r) i vs ≡ None → eliminate_rows octets r vs ≡ vs
none_from r [] i h = refl
none_from r (v ∷ vs) i h =
    elim (eqb (dot octets r v) 0) as (λ b. cond (not b) (Some i) (position_from (Unsolved r) (i + 1) vs) ≡ None → cond b (v ∷ eliminate_rows octets r vs) (clear_rows octets r v vs) ≡ v ∷ vs) [
      | true ↦ λ n. ap (λ l. v ∷ l) (none_from r vs (i + 1) n)
      | false ↦ λ n. cc
    ] h

-- where each row solves the equation nothing changes
pub all_solve : (r : List ℕ) (vs : List (List ℕ)) (o : Option ℕ) → o ≡ position (Unsolved r) vs → o ≡ None → eliminate_rows octets r vs ≡ vs
all_solve r vs o e none = none_from r vs 0 (sym (position_from-zero (Unsolved r) vs) ∙ sym e ∙ none)

-- the first row that does not solve the equation goes
one_goes : (r : List ℕ) (vs : List (List ℕ)) (p : ℕ) → position (Unsolved r) vs ≡ Some p
    → (p < length vs) × (eliminate_rows octets r vs ≡ take p vs ++ clear_rows octets r (get_or vs p []) (drop (suc p) vs))
one_goes r vs p some =
    let at = position-Some (Unsolved r) vs p [] some in
    let solves : (k : ℕ) → k < p → dot octets r (get_or vs k []) ≡ 0 = λ k below. eqb-true _ _ (not-false _ (at.2 k below)) in
    let solved = All-from_get_or (λ v. dot octets r v ≡ 0) (take p vs) []
    (λ k h. let below : k < p = omega (arith, length-take-le p vs (omega arith)) in ap (dot octets r) (get_or-take p vs k [] below) ∙ solves k below) in
    (at.0, octets_eliminate_at r p vs at.0 solved (eqb-false _ _ (not-true _ at.1)))

-- the rows behind the first p are written anew
rewritten : {A : Type 0} (p : ℕ) (F R C : List A) → length F ≡ p → length C ≡ length R
    → refill (length (F ++ R)) (F ++ R) (take p (F ++ R) ++ (C ++ drop (length (F ++ R) - p) (drop p (F ++ R)))) ≡ F ++ C
rewritten p F R C e long =
    let L = F ++ R in
    let front : take p (F ++ R) ≡ F = subst (λ n. take n (F ++ R) ≡ F) e (take-append_seam F R) in
    let back : drop p (F ++ R) ≡ R = subst (λ n. drop n (F ++ R) ≡ R) e (drop-append_seam F R) in
    let none = drop_all (length L - p) (drop p L) (omega (arith, ap length back, length-append F R)) in
    ap (refill (length L) L) (ap₂ (λ a b. a ++ (C ++ b)) front none ∙ ap (λ l. F ++ l) (append-nil C))
    ∙ items-with_items (record { items = L }) (F ++ C) (omega (arith, length-append F R, length-append F C))

pub eliminated : (r : List ℕ) (vs L : List (List ℕ)) (o : Option ℕ) (p : ℕ) (pivot : List ℕ) → o ≡ position (Unsolved r) vs → o ≡ Some p → L ≡ remove vs p
    → pivot ≡ get_or vs p pivot → let C = clear_rows octets r pivot (take (length L - p) (drop p L)) in
    refill (length L) L (take p L ++ (C ++ drop (length L - p) (drop p L))) ≡ eliminate_rows octets r vs
eliminated r vs L o p pivot found some gone row =
    let goes = one_goes r vs p (sym found ∙ some) in
    let F = take p vs in
    let R = drop (suc p) vs in
    let front = length-take-le p vs (omega (arith, goes.0)) in
    let rest : take (length (F ++ R) - p) (drop p (F ++ R)) ≡ R = take_rest (F ++ R) p ∙ subst (λ n. drop n (F ++ R) ≡ R) front (drop-append_seam F R) in
    ap (λ l. refill (length l) l (take p l ++ (clear_rows octets r pivot (take (length l - p) (drop p l)) ++ drop (length l - p) (drop p l)))) gone
    ∙ ap (λ l. refill (length (F ++ R)) (F ++ R) (take p (F ++ R) ++ (clear_rows octets r pivot l ++ drop (length (F ++ R) - p) (drop p (F ++ R))))) rest
    ∙ rewritten p F R (clear_rows octets r pivot R) front (length_clear_rows octets r pivot R)
    ∙ ap (λ v. F ++ clear_rows octets r v R) (row ∙ get_or_default vs p pivot [] goes.0) ∙ sym goes.1

-- n of the first m entries from k on, as an equation
pub window_part : (xs : List ℕ) (m k n : ℕ) → k + n ≤ m → m ≤ length xs → take n (drop k (take m xs)) ≡ window (entries xs) k n
window_part xs m k zero fits le = refl
window_part xs m k (suc n) fits le =
    let X = take m xs in
    ap (take (suc n)) (drop_more X k 0 (omega (arith, length-take-le m xs le)) ∙ ap (λ i. get_or X k 0 ∷ drop i X) (add-one k))
    ∙ ap₂ (λ a l. a ∷ l) (get_or-take m xs k 0 (omega arith)) (window_part xs m (suc k) n (omega arith) le)

-- one equation more
pub kernel_more : (xs : List ℕ) (m n t k : ℕ) (rows next : List (List ℕ)) → k < t → k + n ≤ m → m ≤ length xs → next ≡ eliminate_rows octets (take n (drop k (take m xs))) rows
    → kernel_rows octets (windows (entries xs) n (k + 1) (t - (k + 1))) next ≡ kernel_rows octets (windows (entries xs) n k (t - k)) rows
kernel_more xs m n t k rows next below fits le e =
    let steps : t - k ≡ suc (t - (k + 1)) = omega arith in
    ap₂ (λ i vs. kernel_rows octets (windows (entries xs) n i (t - (k + 1))) vs) (add-one k) (e ∙ ap (λ r. eliminate_rows octets r rows) (window_part xs m k n fits le))
    ∙ sym (ap (λ m. kernel_rows octets (windows (entries xs) n k m) rows) steps)
