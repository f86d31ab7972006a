-- The parts of the decoder come to the same in the field of the proper values and at the values.
use Rattle.std.proofs.Common.{◌≡◌, ℕ, zero, suc, ◌<◌, Bool, true, false, cond, List, [], ◌∷◌, map, length, sym, refl, ap, ◌∙◌, subst, ap₂, arith}
use mathlib.Core.Path.{fun_ext}
use lib.ListN.{length-map}
use Rattle.std.specs.List.{AllByRecursion as Each}
use Rattle.elements.specs.Laws.{Operations}
use Rattle.coding.specs.Sums.{Distinct, Zero, eval_low, slide, times_root, from_roots}
use Rattle.coding.specs.Kernel.{dot, scale, add_mul, clear_rows, eliminate_rows, kernel_rows, unit, unit_rows, Solves}
use Rattle.coding.specs.Decoder.{others, magnitude, correction, roots, patch, syndrome, correct_by}
use Rattle.coding.proofs.Roots.{few_roots}
use Rattle.coding.proofs.KernelRows.{rows_solve, rows_left}
use Rattle.coding.proofs.Carrier.{FieldOn, Part, low, lift, low_lift, length_lift, low_ok, length_low, low_replicate, part_ops, part_path, part_field, low_horner}

module _ {A : Type 0} {ok : A → Type 0} where
  abbrev pub low_rows : List (List (Part A ok)) → List (List A)
  low_rows rs = map low rs

module _ {A : Type 0} (ok : A → Type 0) where
  abbrev lift_rows : (rs : List (List A)) → Each (Each ok) rs → List (List (Part A ok))
  lift_rows [] h = []
  lift_rows (r ∷ rs) h = lift ok r h.0 ∷ lift_rows rs h.1

  low_lift_rows : (rs : List (List A)) (h : Each (Each ok) rs) → low_rows (lift_rows rs h) ≡ rs
  low_lift_rows [] h = refl
  low_lift_rows (r ∷ rs) h = ap₂ {C = List (List A)} (λ x xs. x ∷ xs) (low_lift ok r h.0) (low_lift_rows rs h.1)

module _ {A : Type 0} {ok : A → Type 0} {K : Operations A} (H : FieldOn ok K) where
  open K use {zero as 𝟘, one as 𝟙, add as ◌⊕◌, mul as ◌⊗◌, inv, same}

  infixl 65 ◌⊕◌
  infixl 70 ◌⊗◌
  abbrev P : Operations (Part A ok)
  P = part_ops H

  abbrev E : Type 0
  E = Part A ok

  -- polynomials

  pub low_eval_low : (v : List E) (x : E) → (eval_low P v x).0 ≡ eval_low K (low v) x.0
  low_eval_low [] x = refl
  low_eval_low (a ∷ v) x = ap (λ z. a.0 ⊕ x.0 ⊗ z) (low_eval_low v x)

  pub low_slide : (v : List E) (s : ℕ → E) (k : ℕ) → (slide P v s k).0 ≡ slide K (low v) (λ i. (s i).0) k
  low_slide [] s k = refl
  low_slide (a ∷ v) s k = ap (λ z. a.0 ⊗ (s k).0 ⊕ z) (low_slide v s (suc k))

  low_times_root : (y c : E) (v : List E) → low (times_root P y c v) ≡ times_root K y.0 c.0 (low v)
  low_times_root y c [] = refl
  low_times_root y c (a ∷ v) = ap {B = List A} (λ r. (c.0 ⊕ y.0 ⊗ a.0) ∷ r) (low_times_root y a v)

  low_from_roots : (ys : List E) → low (from_roots P ys) ≡ from_roots K (low ys)
  low_from_roots [] = refl
  low_from_roots (y ∷ ys) = low_times_root y P.zero (from_roots P ys) ∙ ap (times_root K y.0 𝟘) (low_from_roots ys)

  cond_low : (b : Bool) (x y : E) → (cond b x y).0 ≡ cond b x.0 y.0
  cond_low true x y = refl
  cond_low false x y = refl

  low_cond : (b : Bool) (xs ys : List E) → low (cond b xs ys) ≡ cond b (low xs) (low ys)
  low_cond true xs ys = refl
  low_cond false xs ys = refl

  low_others : (y : E) (zs : List E) → low (others P y zs) ≡ others K y.0 (low zs)
  low_others y [] = refl
  low_others y (z ∷ zs) =
      low_cond (same z.0 y.0) (others P y zs) (z ∷ others P y zs)
      ∙ ap {B = List A} (λ r. cond (same z.0 y.0) r (z.0 ∷ r)) (low_others y zs)

  low_magnitude : (s : ℕ → E) (ys : List E) (y : E) → (magnitude P s ys y).0 ≡ magnitude K (λ i. (s i).0) (low ys) y.0
  low_magnitude s ys y =
      let p = from_roots P (others P y ys) in
      ap₂ (λ u v. u ⊗ inv (y.0 ⊗ v)) (low_slide p s 0) (low_eval_low p y)
      ∙ ap (λ p. slide K p (λ i. (s i).0) 0 ⊗ inv (y.0 ⊗ eval_low K p y.0)) (low_from_roots (others P y ys) ∙ ap (from_roots K) (low_others y ys))

  low_correction : (s : ℕ → E) (v ys : List E) (y : E) → (correction P s v ys y).0 ≡ correction K (λ i. (s i).0) (low v) (low ys) y.0
  low_correction s v ys y =
      cond_low (same (eval_low P v y).0 𝟘) (magnitude P s ys y) P.zero
      ∙ ap₂ (λ e m. cond (same e 𝟘) m 𝟘) (low_eval_low v y) (low_magnitude s ys y)

  -- the decoder

  module _ (at : ℕ → E) where
    abbrev at_low : ℕ → A
    at_low k = (at k).0

    low_roots : (v : List E) (n : ℕ) → low (roots P at v n) ≡ roots K at_low (low v) n
    low_roots v zero = refl
    low_roots v (suc k) =
        low_cond (same (eval_low P v (at k)).0 𝟘) (at k ∷ roots P at v k) (roots P at v k)
        ∙ ap₂ (λ e r. cond (same e 𝟘) ((at k).0 ∷ r) r) (low_eval_low v (at k)) (low_roots v k)

    low_patch : (f : E → E) (g : A → A) → ((x : E) → (f x).0 ≡ g x.0) → (w : List E) → low (patch P at f w) ≡ patch K at_low g (low w)
    low_patch f g h [] = refl
    low_patch f g h (a ∷ w) =
        ap₂ {C = List A} (λ u r. (a.0 ⊕ u) ∷ r) (h (at (length w)) ∙ ap (λ n. g (at n).0) (sym (length_low w))) (low_patch f g h w)

    pub low_syndrome : (w : List E) → ◌≡◌ {A = ℕ → A} (λ i. (syndrome P at w i).0) (syndrome K at_low (low w))
    low_syndrome w = fun_ext (λ k. low_horner H P.zero w (at (suc k)))

    pub low_correct_by : (v w : List E) → low (correct_by P at v w) ≡ correct_by K at_low (low v) (low w)
    low_correct_by v w =
        let Y = roots P at v (length w) in
        let Y-low : low Y ≡ roots K at_low (low v) (length (low w)) = low_roots v (length w) ∙ ap (roots K at_low (low v)) (sym (length_low w)) in
        low_patch (correction P (syndrome P at w) v Y) (correction K (syndrome K at_low (low w)) (low v) (roots K at_low (low v) (length (low w))))
        (λ x. low_correction (syndrome P at w) v Y x ∙ ap₂ (λ s ys. correction K s (low v) ys x.0) (low_syndrome w) Y-low) w

  -- elimination

  low_dot : (r v : List E) → (dot P r v).0 ≡ dot K (low r) (low v)
  low_dot [] v = refl
  low_dot (r ∷ rs) [] = refl
  low_dot (r ∷ rs) (a ∷ v) = ap (λ z. a.0 ⊗ r.0 ⊕ z) (low_dot rs v)

  low_scale : (c : E) (v : List E) → low (scale P c v) ≡ scale K c.0 (low v)
  low_scale c [] = refl
  low_scale c (b ∷ v) = ap {B = List A} (λ r. c.0 ⊗ b.0 ∷ r) (low_scale c v)

  low_add_mul : (c : E) (u v : List E) → low (add_mul P c u v) ≡ add_mul K c.0 (low u) (low v)
  low_add_mul c [] v = low_scale c v
  low_add_mul c (a ∷ u) [] = refl
  low_add_mul c (a ∷ u) (b ∷ v) = ap {B = List A} (λ r. (a.0 ⊕ c.0 ⊗ b.0) ∷ r) (low_add_mul c u v)

  low_clear_rows : (r p : List E) (vs : List (List E)) → low_rows (clear_rows P r p vs) ≡ clear_rows K (low r) (low p) (low_rows vs)
  low_clear_rows r p [] = refl
  low_clear_rows r p (v ∷ vs) =
      let c : E = P.mul (dot P r v) (P.inv (dot P r p)) in
      ap₂ {C = List (List A)} (λ x xs. x ∷ xs)
      (low_add_mul c v p ∙ ap₂ (λ x y. add_mul K (x ⊗ inv y) (low v) (low p)) (low_dot r v) (low_dot r p)) (low_clear_rows r p vs)

  low_rows_cond : (b : Bool) (xs ys : List (List E)) → low_rows (cond b xs ys) ≡ cond b (low_rows xs) (low_rows ys)
  low_rows_cond true xs ys = refl
  low_rows_cond false xs ys = refl

  low_eliminate_rows : (r : List E) (vs : List (List E)) → low_rows (eliminate_rows P r vs) ≡ eliminate_rows K (low r) (low_rows vs)
  low_eliminate_rows r [] = refl
  low_eliminate_rows r (v ∷ vs) =
      low_rows_cond (same (dot P r v).0 𝟘) (v ∷ eliminate_rows P r vs) (clear_rows P r v vs)
      ∙ ap (λ d. cond (same d 𝟘) (low v ∷ low_rows (eliminate_rows P r vs)) (low_rows (clear_rows P r v vs))) (low_dot r v)
      ∙ ap₂ (λ x y. cond (same (dot K (low r) (low v)) 𝟘) (low v ∷ x) y) (low_eliminate_rows r vs) (low_clear_rows r v vs)

  low_kernel_rows : (rs vs : List (List E)) → low_rows (kernel_rows P rs vs) ≡ kernel_rows K (low_rows rs) (low_rows vs)
  low_kernel_rows [] vs = refl
  low_kernel_rows (r ∷ rs) vs = low_kernel_rows rs (eliminate_rows P r vs) ∙ ap (kernel_rows K (low_rows rs)) (low_eliminate_rows r vs)

  low_unit : (n i : ℕ) → low (unit P n i) ≡ unit K n i
  low_unit zero i = refl
  low_unit (suc n) zero = ap {B = List A} (λ r. 𝟙 ∷ r) (low_replicate n P.zero)
  low_unit (suc n) (suc i) = ap {B = List A} (λ r. 𝟘 ∷ r) (low_unit n i)

  low_unit_rows : (n i k : ℕ) → low_rows (unit_rows P n i k) ≡ unit_rows K n i k
  low_unit_rows n i zero = refl
  low_unit_rows n i (suc k) = ap₂ {C = List (List A)} (λ x xs. x ∷ xs) (low_unit n i) (low_unit_rows n (suc i) k)

  -- what is proved of the field holds of proper values

  pub zeros_lift : (v : List A) (h : Each ok v) → Each (Zero P) (lift ok v h) → Each (Zero K) v
  zeros_lift [] h z = tt
  zeros_lift (a ∷ v) h z = (ap (λ x. x.0) z.0, zeros_lift v h.1 z.1)

  zeros_low : (v : List E) → Each (Zero K) (low v) → Each (Zero P) v
  zeros_low [] z = tt
  zeros_low (a ∷ v) z = (part_path H _ _ z.0, zeros_low v z.1)

  solves_low : (rs : List (List E)) (v : List E) → Each (λ r. dot P r v ≡ P.zero) rs → Each (λ r. dot K r (low v) ≡ 𝟘) (low_rows rs)
  solves_low [] v h = tt
  solves_low (r ∷ rs) v h = (sym (low_dot r v) ∙ ap (λ x. x.0) h.0, solves_low rs v h.1)

  all_solve_low : (n : ℕ) (rs vs : List (List E)) → Each (Solves P n rs) vs → Each (λ v. Solves K n (low_rows rs) v × Each ok v) (low_rows vs)
  all_solve_low n rs [] h = tt
  all_solve_low n rs (v ∷ vs) h = (
    (record { long = length_low v ∙ h.0.long; solves = solves_low rs v h.0.solves; some = λ z. h.0.some (zeros_low v z) }, low_ok v),
    all_solve_low n rs vs h.1,
  )

  kernel_low : (n : ℕ) (rs : List (List A)) (h : Each (Each ok) rs) → low_rows (kernel_rows P (lift_rows ok rs h) (unit_rows P n 0 n)) ≡ kernel_rows K rs (unit_rows K n 0 n)
  kernel_low n rs h = low_kernel_rows (lift_rows ok rs h) (unit_rows P n 0 n) ∙ ap₂ (kernel_rows K) (low_lift_rows ok rs h) (low_unit_rows n 0 n)

  pub rows_solve_on : (n : ℕ) (rs : List (List A)) → Each (Each ok) rs → Each (λ v. Solves K n rs v × Each ok v) (kernel_rows K rs (unit_rows K n 0 n))
  rows_solve_on n rs h =
      let rs' = lift_rows ok rs h in
      subst (λ r. Each (λ v. Solves K n r v × Each ok v) (kernel_rows K rs (unit_rows K n 0 n))) (low_lift_rows ok rs h)
      (subst (Each (λ v. Solves K n (low_rows rs') v × Each ok v)) (kernel_low n rs h)
      (all_solve_low n rs' (kernel_rows P rs' (unit_rows P n 0 n)) (rows_solve (part_field H) n rs')))

  pub rows_left_on : (n : ℕ) (rs : List (List A)) → Each (Each ok) rs → length rs < n → 0 < length (kernel_rows K rs (unit_rows K n 0 n))
  rows_left_on n rs h fewer =
      let rs' = lift_rows ok rs h in
      let long : length rs' ≡ length rs = sym (length-map rs' low) ∙ ap length (low_lift_rows ok rs h) in
      rw (← kernel_low n rs h) (rw length-map (rows_left (part_field H) n rs' (omega arith)))

  away_lift : (x : E) (ys : List A) (h : Each ok ys) → Each (λ y. ¬ (y ≡ x.0)) ys → Each (λ y. ¬ (y ≡ x)) (lift ok ys h)
  away_lift x [] h away = tt
  away_lift x (y ∷ ys) h away = (λ e. away.0 (ap (λ z. z.0) e), away_lift x ys h.1 away.1)

  distinct_lift : (xs : List A) (h : Each ok xs) → Distinct xs → Distinct (lift ok xs h)
  distinct_lift [] h d = tt
  distinct_lift (x ∷ xs) h d = (away_lift (x, h.0) xs h.1 d.0, distinct_lift xs h.1 d.1)

  roots_lift : (v : List E) (xs : List A) (h : Each ok xs) → Each (λ x. eval_low K (low v) x ≡ 𝟘) xs → Each (λ x. eval_low P v x ≡ P.zero) (lift ok xs h)
  roots_lift v [] h z = tt
  roots_lift v (x ∷ xs) h z = (part_path H _ _ (low_eval_low v (x, h.0) ∙ z.0), roots_lift v xs h.1 z.1)

  pub few_roots_on : (rs vs : List A) → Each ok rs → Each ok vs → Distinct rs → Each (λ r. eval_low K vs r ≡ 𝟘) rs → ¬ (Each (Zero K) vs) → length rs < length vs
  few_roots_on rs vs hr hv distinct zeros some =
      let vs' = lift ok vs hv in
      let zeros' = subst (λ v. Each (λ r. eval_low K v r ≡ 𝟘) rs) (sym (low_lift ok vs hv)) zeros in
      omega (
        arith,
        few_roots (part_field H) (lift ok rs hr) vs' (distinct_lift rs hr distinct) (roots_lift vs' rs hr zeros') (λ z. some (zeros_lift vs hv z)),
        length_lift ok rs hr,
        length_lift ok vs hv,
      )
