-- A row that is written from the front on, place by place or piece by piece: what its front holds.
use Rattle.std.proofs.Common.{◌≡◌, ℕ, ◌+◌, ◌*◌, ◌<◌, ◌≤◌, List, [], ◌∷◌, ◌++◌, length, get_or, take, drop, set, sym, ap, ◌∙◌, ap₂, mul-one, mul-add, arith}
use borrow.Rule.Slice.PartMut.{put_mid}
use Rattle.std.proofs.lemmas.List.{append-nil, take_all, take_more, take_more_set, drop_all, length-drop}
use Rattle.std.proofs.lemmas.Slice.{take-put_mid}

-- one place more of a list
pub place_more : (row s : List ℕ) (i y : ℕ) → i < length row → i < length s → y ≡ get_or s i 0 → take i row ≡ take i s → take (i + 1) (set row i y) ≡ take (i + 1) s
place_more row s i y h k e f = take_more_set row i y h ∙ ap₂ (λ l x. l ++ (x ∷ [])) f e ∙ sym (take_more s i 0 k)

-- all places of it
pub all_places : (row s : List ℕ) (n : ℕ) → length row ≤ n → length s ≤ n → take n row ≡ take n s → row ≡ s
all_places row s n h k e = sym (take_all n row h) ∙ e ∙ take_all n s k

-- one piece more
pub piece_more : (row piece s t : List ℕ) (a k n : ℕ) → a ≤ length row → n ≡ a + length piece → take a row ≡ s → s ++ piece ≡ t → take n (put_mid a k row piece) ≡ t
piece_more row piece s t a k n h m e f = take-put_mid a k row piece n m h ∙ ap (λ l. l ++ piece) e ∙ f

-- of parts of n places, one more
pub part_more : (row part s t : List ℕ) (n i m : ℕ) → length part ≡ n → n * i ≤ length row → s ++ part ≡ t → take (n * i) row ≡ s → take (n * (i + 1)) (put_mid (n * i) m row part) ≡ t
part_more row part s t n i m long h f e = piece_more row part s t (n * i) m (n * (i + 1)) h (mul-add n i 1 ∙ ap (λ k. n * i + k) (mul-one n ∙ sym long)) e f

-- the last piece
pub piece_last : (row piece s : List ℕ) (a k : ℕ) → length row ≤ a + k → take a row ≡ s → put_mid a k row piece ≡ s ++ piece
piece_last row piece s a k h e =
    let none : drop k (drop a row) ≡ [] = drop_all k (drop a row) (omega (arith, length-drop a row)) in
    ap₂ (λ l t. l ++ (piece ++ t)) e none ∙ ap (λ l. s ++ l) (append-nil piece)
