-- Elimination over rows that are wider than the equations does to their first coordinates what it does to rows of the equations' width.
use Rattle.std.proofs.Common.{◌≡◌, ℕ, zero, suc, ◌+◌, ◌<◌, ◌≤◌, Bool, true, false, cond, List, [], ◌∷◌, map, length, get_or, take, sym, refl, ap, ◌∙◌, subst, ap₂, add-one, arith}
use Rattle.std.specs.List.{AllByRecursion as Each}
use Rattle.std.proofs.lemmas.List.{take-replicate, length-replicate, length-map}
use Rattle.elements.specs.Laws.{Operations}
use Rattle.elements.specs.Octets.{octets, Octet}
use Rattle.coding.specs.Kernel.{dot, add_mul, clear_rows, eliminate_rows, kernel_rows, unit, unit_rows, Solves}
use Rattle.coding.specs.Decoder.{window, windows}
use Rattle.coding.proofs.Decoder.{length_windows, windows_slide}
use Rattle.coding.proofs.OctetDecoder.{octets_rows_solve, octets_rows_left, windows_octets}
use Rattle.menders.specs.Locators.{Locates}

abbrev Wide : {F : Type 0} → ℕ → List F → Type 0
Wide m v = length v ≡ m

abbrev Narrow : {F : Type 0} → ℕ → List F → Type 0
Narrow n r = length r ≤ n

module _ {F : Type 0} (K : Operations F) where
  open K use {zero as 𝟘, one as 𝟙, add as ◌⊕◌, mul as ◌⊗◌, inv, same}

  infixl 65 ◌⊕◌
  infixl 70 ◌⊗◌
  pub dot_take : (n : ℕ) (r v : List F) → length r ≤ n → dot K r (take n v) ≡ dot K r v
  dot_take n [] v le = refl
  dot_take zero (a ∷ r) v le = absurd (omega arith)
  dot_take (suc n) (a ∷ r) [] le = refl
  dot_take (suc n) (a ∷ r) (b ∷ v) le = ap (λ d. b ⊗ a ⊕ d) (dot_take n r v (omega arith))

  take_add_mul : (n : ℕ) (c : F) (u v : List F) → length u ≡ length v → take n (add_mul K c u v) ≡ add_mul K c (take n u) (take n v)
  take_add_mul zero c u v e = refl
  take_add_mul (suc n) c [] [] e = refl
  take_add_mul (suc n) c [] (b ∷ v) e = absurd (omega arith)
  take_add_mul (suc n) c (a ∷ u) [] e = absurd (omega arith)
  take_add_mul (suc n) c (a ∷ u) (b ∷ v) e = ap (λ l. (a ⊕ c ⊗ b) ∷ l) (take_add_mul n c u v (omega arith))

  length_add_mul : (c : F) (u v : List F) → length u ≡ length v → length (add_mul K c u v) ≡ length u
  length_add_mul c [] [] e = refl
  length_add_mul c [] (b ∷ v) e = absurd (omega arith)
  length_add_mul c (a ∷ u) [] e = absurd (omega arith)
  length_add_mul c (a ∷ u) (b ∷ v) e = ap suc (length_add_mul c u v (omega arith))

  module _ (m n : ℕ) where
    narrow_clear : (r p : List F) (vs : List (List F)) → Narrow n r → Wide m p → Each (Wide m) vs
        → map (take n) (clear_rows K r p vs) ≡ clear_rows K r (take n p) (map (take n) vs)
    narrow_clear r p [] hr hp hv = refl
    narrow_clear r p (v ∷ vs) hr hp hv =
        ap₂ {C = List (List F)} (λ x xs. x ∷ xs)
        (take_add_mul n (dot K r v ⊗ inv (dot K r p)) v p (hv.0 ∙ sym hp)
        ∙ ap₂ (λ a b. add_mul K (a ⊗ inv b) (take n v) (take n p)) (sym (dot_take n r v hr)) (sym (dot_take n r p hr)))
        (narrow_clear r p vs hr hp hv.1)

    wide_clear : (r p : List F) (vs : List (List F)) → Wide m p → Each (Wide m) vs → Each (Wide m) (clear_rows K r p vs)
    wide_clear r p [] hp hv = tt
    wide_clear r p (v ∷ vs) hp hv = (length_add_mul (dot K r v ⊗ inv (dot K r p)) v p (hv.0 ∙ sym hp) ∙ hv.0, wide_clear r p vs hp hv.1)

    map_cond : (b : Bool) (xs ys : List (List F)) → map (take n) (cond b xs ys) ≡ cond b (map (take n) xs) (map (take n) ys)
    map_cond true xs ys = refl
    map_cond false xs ys = refl

    narrow_eliminate : (r : List F) (vs : List (List F)) → Narrow n r → Each (Wide m) vs
        → map (take n) (eliminate_rows K r vs) ≡ eliminate_rows K r (map (take n) vs)
    narrow_eliminate r [] hr hv = refl
    narrow_eliminate r (v ∷ vs) hr hv =
        map_cond (same (dot K r v) 𝟘) (v ∷ eliminate_rows K r vs) (clear_rows K r v vs)
        ∙ ap₂ (λ x y. cond (same (dot K r v) 𝟘) (take n v ∷ x) y) (narrow_eliminate r vs hr hv.1) (narrow_clear r v vs hr hv.0 hv.1)
        ∙ ap (λ d. cond (same d 𝟘) (take n v ∷ eliminate_rows K r (map (take n) vs)) (clear_rows K r (take n v) (map (take n) vs))) (sym (dot_take n r v hr))

    wide_eliminate : (r : List F) (vs : List (List F)) → Each (Wide m) vs → Each (Wide m) (eliminate_rows K r vs)
    wide_eliminate r [] hv = tt
    wide_eliminate r (v ∷ vs) hv =
        let rest = wide_eliminate r vs hv.1 in
        let cleared = wide_clear r v vs hv.0 hv.1 in
        elim (same (dot K r v) 𝟘) as (λ t. Each (Wide m) (cond t (v ∷ eliminate_rows K r vs) (clear_rows K r v vs))) [ true ↦ (hv.0, rest) | false ↦ cleared ]

    narrow_kernel : (rs vs : List (List F)) → Each (Narrow n) rs → Each (Wide m) vs → map (take n) (kernel_rows K rs vs) ≡ kernel_rows K rs (map (take n) vs)
    narrow_kernel [] vs hr hv = refl
    narrow_kernel (r ∷ rs) vs hr hv =
        narrow_kernel rs (eliminate_rows K r vs) hr.1 (wide_eliminate r vs hv) ∙ ap (kernel_rows K rs) (narrow_eliminate r vs hr.0 hv)

  length_unit : (m i : ℕ) → length (unit K m i) ≡ m
  length_unit zero i = refl
  length_unit (suc m) zero = ap suc (length-replicate m 𝟘)
  length_unit (suc m) (suc i) = ap suc (length_unit m i)

  take_unit : (n m i : ℕ) → n ≤ m → take n (unit K m i) ≡ unit K n i
  take_unit zero m i le = refl
  take_unit (suc n) zero i le = absurd (omega arith)
  take_unit (suc n) (suc m) zero le = ap (λ l. 𝟙 ∷ l) (take-replicate n m 𝟘 (omega arith))
  take_unit (suc n) (suc m) (suc i) le = ap (λ l. 𝟘 ∷ l) (take_unit n m i (omega arith))

  narrow_units : (n m i k : ℕ) → n ≤ m → map (take n) (unit_rows K m i k) ≡ unit_rows K n i k
  narrow_units n m i zero le = refl
  narrow_units n m i (suc k) le = ap₂ {C = List (List F)} (λ x xs. x ∷ xs) (take_unit n m i le) (narrow_units n m (suc i) k le)

  wide_units : (m i k : ℕ) → Each (Wide m) (unit_rows K m i k)
  wide_units m i zero = tt
  wide_units m i (suc k) = (length_unit m i, wide_units m (suc i) k)

  pub take_units : (n m i k : ℕ) → k ≤ m → take k (unit_rows K n i m) ≡ unit_rows K n i k
  take_units n m i zero le = refl
  take_units n zero i (suc k) le = absurd (omega arith)
  take_units n (suc m) i (suc k) le = ap (λ l. unit K n i ∷ l) (take_units n m (suc i) k (omega arith))

  -- the rows that are left of the first n unit vectors of m coordinates
  narrowed : (n m : ℕ) (rs : List (List F)) → n ≤ m → Each (Narrow n) rs → map (take n) (kernel_rows K rs (unit_rows K m 0 n)) ≡ kernel_rows K rs (unit_rows K n 0 n)
  narrowed n m rs le hr = narrow_kernel m n rs (unit_rows K m 0 n) hr (wide_units m 0 n) ∙ ap (kernel_rows K rs) (narrow_units n m 0 n le)

length_window : {F : Type 0} (s : ℕ → F) (k n : ℕ) → length (window s k n) ≡ n
length_window s k zero = refl
length_window s k (suc n) = ap suc (length_window s (suc k) n)

narrow_windows : {F : Type 0} (s : ℕ → F) (n k t : ℕ) → Each (Narrow n) (windows s n k t)
narrow_windows s n k zero = tt
narrow_windows s n k (suc t) = (omega (arith, length_window s k n), narrow_windows s n (suc k) t)

module _ (s : ℕ → ℕ) (t m : ℕ) (rows : List (List ℕ)) (hs : (i : ℕ) → Octet (s i)) (le : suc t ≤ m)
    (e : rows ≡ kernel_rows octets (windows s (t + 1) 0 t) (unit_rows octets m 0 (t + 1))) where
  cut : map (take (suc t)) rows ≡ kernel_rows octets (windows s (suc t) 0 t) (unit_rows octets (suc t) 0 (suc t))
  cut =
      ap (map (take (suc t))) (e ∙ ap (λ n. kernel_rows octets (windows s n 0 t) (unit_rows octets m 0 n)) (add-one t))
      ∙ narrowed octets (suc t) m (windows s (suc t) 0 t) le (narrow_windows s (suc t) 0 t)

  -- a row is left
  pub rows_left : 0 < length rows
  rows_left =
      let n = suc t in
      let some : 0 < length (map (take (suc t)) rows) =
      subst (λ l. 0 < length l) (sym cut) (octets_rows_left n (windows s n 0 t) (windows_octets s hs n 0 t) (omega (arith, length_windows s n 0 t))) in
      omega (arith, length-map rows (take (suc t)))

  -- the first row that is left, cut to t + 1 coordinates, locates the wrong places
  pub first_locates : Locates s t (take (t + 1) (get_or rows 0 []))
  first_locates = subst (λ n. Locates s t (take n (get_or rows 0 []))) (sym (add-one t)) (first rows rows_left (subst (Each (λ v. Solves octets (suc t) (windows s (suc t) 0 t) v × Each Octet v)) (sym cut) (octets_rows_solve (suc t) (windows s (suc t) 0 t) (windows_octets s hs (suc t) 0 t))))
    where
      located : (v : List ℕ) → Solves octets (suc t) (windows s (suc t) 0 t) v → Each Octet v → Locates s t v
      located v g hv = record {
        long = g.long;
        proper = hv;
        some = g.some;
        solves = λ k below. windows_slide octets s (suc t) t 0 v (omega (arith, g.long)) g.solves k (omega arith) (omega arith);
      }

      first : (l : List (List ℕ)) → 0 < length l → Each (λ v. Solves octets (suc t) (windows s (suc t) 0 t) v × Each Octet v) (map (take (suc t)) l)
          → Locates s t (take (suc t) (get_or l 0 []))
      first [] h good = absurd (omega arith)
      first (v ∷ l) h good = located (take (suc t) v) good.0.0 good.0.1
