-- Steps of loops over rows.
use Rattle.std.proofs.Common.{◌≡◌, ℕ, ◌+◌, ◌<◌, ◌≤◌, Bool, cond, List, [], ◌∷◌, ◌++◌, length, get_or, take, drop, set, sym, refl, ap, ◌∙◌, ap₂, arith}
use Rattle.std.proofs.lemmas.List.{drop_more, drop_all, take_more_set, drop-set-lt, append_assoc}
use Rattle.elements.specs.Laws.{Operations}
use Rattle.polynomials.specs.Differences.{differing}
use Rattle.polynomials.specs.Division.{less}

-- what is left of a row, at an element that was read
pub drop_read : {E : Type 0} (a : List E) (i : ℕ) (x : E) → i < length a → x ≡ get_or a i x → drop i a ≡ x ∷ drop (i + 1) a
drop_read a i x h e = drop_more a i x h ∙ ap (λ y. y ∷ drop (i + 1) a) (sym e)

pub differing_none : {E : Type 0} (o : Operations E) (a : List E) → differing o a [] ≡ 0
differing_none o [] = refl
differing_none o (x ∷ a) = refl

-- one place more, at elements that were read and compared
pub differing_next : {E : Type 0} (o : Operations E) (a b : List E) (i : ℕ) (x y : E) (t : Bool)
    → i < length a → i < length b → x ≡ get_or a i x → y ≡ get_or b i y → t ≡ o.same x y
    → differing o (drop i a) (drop i b) ≡ cond t 0 1 + differing o (drop (i + 1) a) (drop (i + 1) b)
differing_next o a b i x y t ha hb ex ey et =
    ap₂ (differing o) (drop_read a i x ha ex) (drop_read b i y hb ey) ∙ ap (λ r. cond r 0 1 + differing o (drop (i + 1) a) (drop (i + 1) b)) (sym et)

pub differing_past : {E : Type 0} (o : Operations E) (a b : List E) (i j : ℕ) → length b ≤ j → differing o (drop i a) (drop j b) ≡ 0
differing_past o a b i j h = ap (differing o (drop i a)) (drop_all j b h) ∙ differing_none o (drop i a)

-- a loop that writes y at i, where a function F has yet to go over what is left: what it leaves before and after the write
pub write_next : {E : Type 0} (row : List E) (i : ℕ) (y : E) (F : List E → List E) → i < length row
    → take (i + 1) (set row i y) ++ F (drop (i + 1) (set row i y)) ≡ take i row ++ (y ∷ F (drop (i + 1) row))
write_next row i y F h =
    ap₂ (λ p q. p ++ F q) (take_more_set row i y h) (drop-set-lt (i + 1) row i y (omega arith)) ∙ append_assoc (take i row) (y ∷ []) (F (drop (i + 1) row))

pub less_next : {E : Type 0} (o : Operations E) (f : E) (by row : List E) (j : ℕ) (g x y : E)
    → j < length by → j < length row → g ≡ get_or by j g → x ≡ get_or row j x → y ≡ o.add x (o.neg (o.mul f g))
    → take (j + 1) (set row j y) ++ less o f (drop (j + 1) by) (drop (j + 1) (set row j y)) ≡ take j row ++ less o f (drop j by) (drop j row)
less_next o f by row j g x y hb hr eg ex ey =
    write_next row j y (less o f (drop (j + 1) by)) hr
    ∙ ap (λ z. take j row ++ (z ∷ less o f (drop (j + 1) by) (drop (j + 1) row))) ey
    ∙ ap (λ l. take j row ++ l) (sym (ap₂ (less o f) (drop_read by j g hb eg) (drop_read row j x hr ex)))
