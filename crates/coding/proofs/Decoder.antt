-- A vector that solves the equations of the syndromes puts a word right: it comes to the word of the code no more than t places away.
use Rattle.std.proofs.Common.{◌≡◌, ℕ, zero, suc, ◌+◌, ◌<◌, ◌≤◌, true, false, cond, ◌⊎◌, List, [], ◌∷◌, length, sym, refl, ap, ◌∙◌, ap₂, arith}
use native.Mathlib.Decide.{dec_le}
use Rattle.std.specs.List.{AllByRecursion as Each}
use Rattle.std.proofs.ByRecursion.{All-weaker}
use Rattle.elements.specs.Laws.{Operations}
use Rattle.polynomials.specs.Differences.{differing}
use Rattle.coding.specs.Field.{Field}
use Rattle.coding.specs.Sums.{Zero, Nonzero, pow, Vanishes, eval_low, slide, from_roots}
use Rattle.coding.specs.Kernel.{dot}
use Rattle.coding.specs.Decoder.{window, windows, roots, others, magnitude, correction, patch, syndrome, correct_by, InCode}
use Rattle.coding.proofs.FieldLaws.{add-zero, zero_plus, add_twice, pow_apart, compares, apart_of_false, apart_false}
use Rattle.coding.proofs.PowerSums.{Term, locators, psum}
use Rattle.coding.proofs.Distance.{eval_high, PowersApart, diffs, horner_eval, psum_diffs, length_diffs, diffs_values, diffs_locators, diffs_distinct}
use Rattle.coding.proofs.Locator.{slide_same, slide_suc, locator}
use Rattle.coding.proofs.Roots.{few_roots}
use Rattle.coding.proofs.Values.{Within, value_at, value_from, length_from_roots}
use Rattle.coding.proofs.Candidates.{roots_zero, roots_distinct, roots_within, others_away, others_within, fewer_others}

pub length_windows : {F : Type 0} (s : ℕ → F) (n k m : ℕ) → length (windows s n k m) ≡ m
length_windows s n k zero = refl
length_windows s n k (suc m) = ap suc (length_windows s n (suc k) m)

-- the equations
module _ {F : Type 0} (K : Operations F) where
  open K use {zero as 𝟘, add as ◌⊕◌, mul as ◌⊗◌}

  infixl 65 ◌⊕◌
  infixl 70 ◌⊗◌
  pub dot_window : (s : ℕ → F) (n k : ℕ) (v : List F) → length v ≤ n → dot K (window s k n) v ≡ slide K v s k
  dot_window s zero k [] le = refl
  dot_window s zero k (a ∷ v) le = absurd (omega arith)
  dot_window s (suc n) k [] le = refl
  dot_window s (suc n) k (a ∷ v) le = ap (λ d. a ⊗ s k ⊕ d) (dot_window s n (suc k) v (omega arith))

  pub windows_slide : (s : ℕ → F) (n m k : ℕ) (v : List F) → length v ≤ n → Each (λ r. dot K r v ≡ 𝟘) (windows s n k m) → Vanishes K (slide K v s) k m
  windows_slide s n zero k v le h = λ i from to. absurd (omega arith)
  windows_slide s n (suc m) k v le h =
      let rest = windows_slide s n m (suc k) v le h.1 in
      λ i from to. elim (dec_le (suc k) i) [
        | yes later ↦ rest i later (omega arith)
        | no here ↦ (let e : i ≡ k = omega arith in rw e (sym (dot_window s n k v le) ∙ h.0))
      ]

module _ {F : Type 0} {K : Operations F} (L : Field K) where
  open K use {zero as 𝟘, add as ◌⊕◌, mul as ◌⊗◌, inv, same}

  infixl 65 ◌⊕◌
  infixl 70 ◌⊗◌
  -- the syndromes of a word are the sums of powers of the places in which it differs from a word of the code
  pub syndrome_psum : (α : F) (r : ℕ) (w c : List F) → length w ≡ length c → InCode K (pow K α) r c
      → (k : ℕ) → k < r → syndrome K (pow K α) w k ≡ psum K (diffs K α w c) (suc k)
  syndrome_psum α r w c len code k below =
      let x = pow K α (suc k) in
      let zero_there : eval_high K c x ≡ 𝟘 = sym (horner_eval L c x) ∙ code (suc k) (omega arith) (omega arith) in
      horner_eval L w x ∙ sym (psum_diffs L α (suc k) w c len ∙ ap (λ a. eval_high K w x ⊕ a) zero_there ∙ add-zero L (eval_high K w x))

  -- letters

  value_away : (y : F) (ps : List (Term F)) → Each (λ x. ¬ (x ≡ y)) (locators ps) → value_at K ps y ≡ 𝟘
  value_away y [] h = refl
  value_away y (p ∷ ps) h = ap₂ (λ t a. cond t p.value 𝟘 ⊕ a) (apart_false (compares L) p.at y h.0) (value_away y ps h.1) ∙ zero_plus L 𝟘

  patch_same : (at : ℕ → F) (f g : F → F) (w : List F) → ((k : ℕ) → k < length w → f (at k) ≡ g (at k)) → patch K at f w ≡ patch K at g w
  patch_same at f g [] h = refl
  patch_same at f g (a ∷ w) h = ap₂ {C = List F} (λ x xs. (a ⊕ x) ∷ xs) (h (length w) (omega arith)) (patch_same at f g w (λ k below. h k (omega arith)))

  -- a word with what is wrong at each place taken off is the other word
  patch_diffs : (α : F) (n : ℕ) → PowersApart K α n → (w c : List F) → length w ≡ length c → length w ≤ n → patch K (pow K α) (value_at K (diffs K α w c)) w ≡ c
  patch_diffs α n apart [] [] len fits = refl
  patch_diffs α n apart [] (b ∷ c) len fits = absurd (omega arith)
  patch_diffs α n apart (a ∷ w) [] len fits = absurd (omega arith)
  patch_diffs α n apart (a ∷ w) (b ∷ c) len fits =
      let y = pow K α (length w) in
      let D = diffs K α w c in
      let q : Term F = record { value = a ⊕ b; at = y } in
      let rest = patch_diffs α n apart w c (omega arith) (omega arith) in
      let none : value_at K D y ≡ 𝟘 = value_away y D (diffs_locators L (λ z. ¬ (z ≡ y)) α (length w) (λ k below. apart k (length w) below (omega arith)) w c (omega arith)) in
      let later : (k : ℕ) → k < length w → value_at K (q ∷ D) (pow K α k) ≡ value_at K D (pow K α k) =
      λ k below. ap (λ t. cond t (a ⊕ b) 𝟘 ⊕ value_at K D (pow K α k)) (apart_false (compares L) y (pow K α k) (λ e. apart k (length w) below (omega arith) (sym e))) ∙ zero_plus L _ in
      (elim (same a b) as (λ t. same a b ≡ t → patch K (pow K α) (value_at K (cond t D (q ∷ D))) (a ∷ w) ≡ b ∷ c) [
        | true ↦ λ e. ap₂ {C = List F} (λ x xs. x ∷ xs) (ap (λ z. a ⊕ z) none ∙ add-zero L a ∙ L.same_true a b e) rest
        | false ↦ λ e. ap₂ {C = List F} (λ x xs. x ∷ xs)
            (ap₂ (λ t z. a ⊕ (cond t (a ⊕ b) 𝟘 ⊕ z)) (L.same_refl y) none ∙ ap (λ z. a ⊕ z) (add-zero L (a ⊕ b)) ∙ add_twice L a b)
            (patch_same (pow K α) (value_at K (q ∷ D)) (value_at K D) w later ∙ rest)
      ]) refl

  from_one : (f : ℕ → F) (t : ℕ) → ((j : ℕ) → j < t → f (suc j) ≡ 𝟘) → Vanishes K f 1 t
  from_one f t h zero from to = absurd (omega arith)
  from_one f t h (suc j) from to = h j (omega arith)

  apply_all : (P Q : F → Type 0) (ps : List (Term F)) → Each (λ p. P p.at) ps → Each (λ x. P x → Q x) (locators ps) → Each Q (locators ps)
  apply_all P Q [] h f = tt
  apply_all P Q (p ∷ ps) h f = (f.0 h.0, apply_all P Q ps h.1 f.1)

  of_terms : (P : F → Type 0) (ps : List (Term F)) → Each (λ p. P p.at) ps → Each P (locators ps)
  of_terms P [] h = tt
  of_terms P (p ∷ ps) h = (h.0, of_terms P ps h.1)

  -- The word w, and a word c of the code. The code has r zeros, and n is the order of α or less.
  module _ (α : F) (n r : ℕ) (nonzero : Nonzero K α) (apart : PowersApart K α n) (w c : List F)
      (len : length w ≡ length c) (fits : length w ≤ n) (code : InCode K (pow K α) r c) where
    abbrev ps : List (Term F)
    ps = diffs K α w c

    abbrev S : ℕ → F
    S = syndrome K (pow K α) w

    sums_slide : (u : List F) (j : ℕ) → j + length u ≤ r → slide K u (psum K ps) (suc j) ≡ slide K u S j
    sums_slide u j within =
        sym (slide_suc K u (psum K ps) j) ∙ slide_same K u (λ i. psum K ps (suc i)) S j (λ i from to. sym (syndrome_psum α r w c len code i (omega arith)))

    -- where each place in which they differ is among ys, the magnitude at y is what is wrong there
    pub magnitude_value : (ys : List F) (y : F) → Nonzero K y → length (others K y ys) < r → Each (λ x. Within x ys) (locators ps) → magnitude K S ys y ≡ value_at K ps y
    magnitude_value ys y some few among =
        let P = from_roots K (others K y ys) in
        sym (value_from L y (others K y ys) ps some (others_away (compares L) y ys)
        (All-weaker (λ x. Within x ys) (λ x. (x ≡ y) ⊎ Within x (others K y ys)) (λ x h. others_within (compares L) x y ys h) (locators ps) among)
        ∙ ap (λ a. a ⊗ inv (y ⊗ eval_low K P y)) (sums_slide P 0 (omega (arith, length_from_roots K (others K y ys)))))

    -- the word with what is wrong at each place taken off
    pub patched : (f : F → F) → ((k : ℕ) → k < length w → f (pow K α k) ≡ value_at K ps (pow K α k)) → patch K (pow K α) f w ≡ c
    patched f right = patch_same (pow K α) f (value_at K ps) w right ∙ patch_diffs α n apart w c len fits

    -- at most t places are wrong, and v solves the t equations
    module _ (t : ℕ) (enough : t + t ≤ r) (near : differing K w c ≤ t) (v : List F) (long : length v ≡ suc t) (some : ¬ (Each (Zero K) v)) (solves : Vanishes K (slide K v S) 0 t) where
      abbrev Y : List F
      Y = roots K (pow K α) v (length w)

      at_terms : Each (λ p. eval_low K v p.at ≡ 𝟘) ps
      at_terms =
          locator L v ps 1 t (rw (length_diffs L α w c) near) (diffs_distinct L α n apart w c fits)
          (diffs_locators L (Nonzero K) α n (λ k below. pow_apart L α k nonzero) w c fits) (diffs_values L α w c)
          (from_one (slide K v (psum K ps)) t (λ j below. sums_slide v j (omega arith) ∙ solves j (omega arith) (omega arith)))

      few : length Y ≤ t
      few = omega (arith, few_roots L Y v (roots_distinct (compares L) (pow K α) v (length w) (λ i j below inside. apart i j below (omega arith))) (roots_zero (compares L) (pow K α) v (length w)) some)

      among : Each (λ x. Within x Y) (locators ps)
      among =
          apply_all (λ x. eval_low K v x ≡ 𝟘) (λ x. Within x Y) ps at_terms
          (diffs_locators L (λ x. eval_low K v x ≡ 𝟘 → Within x Y) α (length w) (λ k below z. roots_within (compares L) (pow K α) v (length w) k below z) w c (omega arith))

      right_value : (k : ℕ) → k < length w → correction K S v Y (pow K α k) ≡ value_at K ps (pow K α k)
      right_value k below =
          let y = pow K α k in
          (elim (same (eval_low K v y) 𝟘) as (λ t. same (eval_low K v y) 𝟘 ≡ t → cond t (magnitude K S Y y) 𝟘 ≡ value_at K ps y) [
            | true ↦ λ e. (let here = fewer_others (compares L) y Y (roots_within (compares L) (pow K α) v (length w) k below (L.same_true _ 𝟘 e)) in
                magnitude_value Y y (pow_apart L α k nonzero) (omega (arith, few)) among)
            | false ↦ λ e. sym (value_away y ps (of_terms (λ x. ¬ (x ≡ y)) ps
                (All-weaker (λ p. eval_low K v p.at ≡ 𝟘) (λ p. ¬ (p.at ≡ y)) (λ p z q. apart_of_false (compares L) (eval_low K v y) 𝟘 e (ap (eval_low K v) (sym q) ∙ z)) ps at_terms)))
          ]) refl

      pub corrected : correct_by K (pow K α) v w ≡ c
      corrected = patched (correction K S v Y) right_value
