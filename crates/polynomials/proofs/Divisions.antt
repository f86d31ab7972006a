-- Steps of long division in place.
use Rattle.std.proofs.Common.{◌≡◌, ℕ, suc, ◌+◌, ◌-◌, ◌<◌, ◌≤◌, false, cond, List, [], ◌∷◌, ◌++◌, length, get_or, take, drop, set, Some, None, sym, ap, ◌∙◌, ap₂, arith, take-append-drop}
use borrow.Rule.Slice.PartMut.{put_mid}
use Rattle.std.proofs.lemmas.List.{drop_all, drop_at, drop-set-lt, append_assoc, append-nil, length-take-le, length-drop, length-set, take_more_set, take_rest}
use Rattle.std.proofs.lemmas.Slice.{take-put_mid_below}
use Rattle.elements.specs.Laws.{Operations}
use Rattle.polynomials.specs.Division.{less, divided, division}
use Rattle.polynomials.proofs.Rows.{drop_read}

-- after a write to all of s[a..], what stands there
drop_written : {E : Type 0} (a k : ℕ) (xs ys : List E) → a ≤ length xs → length xs ≤ a + k → drop a (put_mid a k xs ys) ≡ ys
drop_written a k xs ys h w =
    drop_at (take a xs) (ys ++ drop k (drop a xs)) a (length-take-le a xs h)
    ∙ ap (λ l. ys ++ l) (drop_all k (drop a xs) (simp length-drop (omega arith))) ∙ append-nil ys

pub divided_next : {E : Type 0} (o : Operations E) (u : E) (gs : List E) (n : ℕ) (row : List E) (i : ℕ) (x f : E) (ys : List E)
    → i < n → i < length row → x ≡ get_or row i x → f ≡ o.mul x u
    → ys ≡ less o f gs (take (length (set row i f) - (i + 1)) (drop (i + 1) (set row i f)))
    → take (i + 1) (put_mid (i + 1) (length (set row i f) - (i + 1)) (set row i f) ys)
    ++ divided o u gs (n - (i + 1)) (drop (i + 1) (put_mid (i + 1) (length (set row i f) - (i + 1)) (set row i f) ys))
    ≡ take i row ++ divided o u gs (n - i) (drop i row)
divided_next o u gs n row i x f ys hn hr ex ef ey =
    let xs = set row i f in
    let k = length (set row i f) - (i + 1) in
    let inside : i + 1 ≤ length (set row i f) = simp length-set (omega arith) in
    let reaches : length (set row i f) ≤ (i + 1) + (length (set row i f) - (i + 1)) = omega arith in
    let steps : n - i ≡ suc (n - (i + 1)) = omega arith in
    let left : ys ≡ less o (o.mul x u) gs (drop (i + 1) row) =
    ey ∙ ap₂ (λ a b. less o a gs b) ef (take_rest xs (i + 1) ∙ drop-set-lt (i + 1) row i f (omega arith)) in
    ap₂ (λ p q. p ++ divided o u gs (n - (i + 1)) q)
    (take-put_mid_below (i + 1) k xs ys (i + 1) (omega arith) inside ∙ take_more_set row i f hr)
    (drop_written (i + 1) k xs ys inside reaches)
    ∙ append_assoc (take i row) (f ∷ []) (divided o u gs (n - (i + 1)) ys)
    ∙ ap₂ (λ a b. take i row ++ (a ∷ divided o u gs (n - (i + 1)) b)) ef left
    ∙ sym (ap₂ (λ m l. take i row ++ divided o u gs m l) steps (drop_read row i x hr ex))

pub division_is : {E : Type 0} (o : Operations E) (divisor row : List E) (lead unit : E) (rest : List E) (n : ℕ)
    → divisor ≡ lead ∷ rest → o.same lead o.zero ≡ false → unit ≡ o.inv lead → n ≡ length row - length rest
    → division o divisor row ≡ (Some n, divided o unit rest n row)
division_is o divisor row lead unit rest n ed es eu en =
    let m = length row - length rest in
    ap (λ d. division o d row) ed
    ∙ ap (λ t. cond t (None, row) (Some m, divided o (o.inv lead) rest m row)) es
    ∙ sym (ap₂ (λ u k. (Some k, divided o u rest k row)) eu en)

pub divided_done : {E : Type 0} (o : Operations E) (u : E) (gs : List E) (n i : ℕ) (row entry : List E) → n ≤ i
    → take i row ++ divided o u gs (n - i) (drop i row) ≡ divided o u gs n entry → row ≡ divided o u gs n entry
divided_done o u gs n i row entry h e =
    let none : n - i ≡ 0 = omega arith in
    sym (take-append-drop i row) ∙ sym (ap (λ m. take i row ++ divided o u gs m (drop i row)) none) ∙ e
