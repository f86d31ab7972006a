-- The value at one of the candidates, from the sums of powers and the other candidates.
use Rattle.std.proofs.Common.{◌≡◌, ℕ, suc, true, false, cond, ◌⊎◌, List, [], ◌∷◌, length, sym, refl, ap, ◌∙◌, ap₂, inl, inr}
use Rattle.std.specs.List.{AllByRecursion as Each}
use Rattle.elements.specs.Laws.{Operations}
use Rattle.coding.specs.Field.{Field}
use Rattle.coding.specs.Sums.{Nonzero, pow, eval_low, slide, times_root, from_roots}
use Rattle.coding.proofs.FieldLaws.{ring, mul-one, mul_assoc, mul_apart, sum_apart, apart_of_false, compares}
use Rattle.coding.proofs.PowerSums.{Term, locators, psum, weigh}
use Rattle.coding.proofs.Locator.{slide_psum}

-- x is one of the row
abbrev pub Within : {A : Type 0} → A → List A → Type 0
Within x [] = ⊥
Within x (y ∷ ys) = (x ≡ y) ⊎ Within x ys

module _ {F : Type 0} (K : Operations F) where
  open K use {zero as 𝟘, add as ◌⊕◌, same}

  infixl 65 ◌⊕◌
  -- all that is wrong at the locator y
  abbrev pub value_at : List (Term F) → F → F
  value_at [] y = 𝟘
  value_at (p ∷ ps) y = cond (same p.at y) p.value 𝟘 ⊕ value_at ps y

  length_times_root : (y c : F) (vs : List F) → length (times_root K y c vs) ≡ suc (length vs)
  length_times_root y c [] = refl
  length_times_root y c (v ∷ vs) = ap suc (length_times_root y v vs)

  pub length_from_roots : (ys : List F) → length (from_roots K ys) ≡ suc (length ys)
  length_from_roots [] = refl
  length_from_roots (y ∷ ys) = length_times_root y 𝟘 (from_roots K ys) ∙ ap suc (length_from_roots ys)

module _ {F : Type 0} {K : Operations F} (L : Field K) where
  open K use {zero as 𝟘, one as 𝟙, add as ◌⊕◌, mul as ◌⊗◌, inv, same}

  infixl 65 ◌⊕◌
  infixl 70 ◌⊗◌
  times_step : (x y c v p : F) → (c ⊕ y ⊗ v) ⊕ x ⊗ (v ⊕ (x ⊕ y) ⊗ p) ≡ c ⊕ (x ⊕ y) ⊗ (v ⊕ x ⊗ p)
  times_step x y c v p = simp (ring, L)

  pub times_root_eval : (y c : F) (vs : List F) (x : F) → eval_low K (times_root K y c vs) x ≡ c ⊕ (x ⊕ y) ⊗ eval_low K vs x
  times_root_eval y c [] x = simp (ring, L)
  times_root_eval y c (v ∷ vs) x = ap (λ a. (c ⊕ y ⊗ v) ⊕ x ⊗ a) (times_root_eval y v vs x) ∙ times_step x y c v (eval_low K vs x)

  -- the product of the factors, at x
  pub from_roots_more : (y : F) (ys : List F) (x : F) → eval_low K (from_roots K (y ∷ ys)) x ≡ (x ⊕ y) ⊗ eval_low K (from_roots K ys) x
  from_roots_more y ys x = times_root_eval y 𝟘 (from_roots K ys) x ∙ simp (ring, L)

  pub root_zero : (x : F) (ys : List F) → Within x ys → eval_low K (from_roots K ys) x ≡ 𝟘
  root_zero x [] h = absurd h
  root_zero x (y ∷ ys) (inl e) = from_roots_more y ys x ∙ ap (λ a. (x ⊕ a) ⊗ eval_low K (from_roots K ys) x) (sym e) ∙ simp (ring, L)
  root_zero x (y ∷ ys) (inr h) = from_roots_more y ys x ∙ ap (λ a. (x ⊕ y) ⊗ a) (root_zero x ys h) ∙ simp (ring, L)

  pub root_apart : (x : F) (ys : List F) → Each (λ y. ¬ (y ≡ x)) ys → Nonzero K (eval_low K (from_roots K ys) x)
  root_apart x [] h z = let one : 𝟙 ⊕ x ⊗ 𝟘 ≡ 𝟘 = z in L.one_not_zero (simp (ring, L) at one)
  root_apart x (y ∷ ys) h z =
      mul_apart L (x ⊕ y) (eval_low K (from_roots K ys) x) (sum_apart L x y (λ e. h.0 (sym e))) (root_apart x ys h.1) (sym (from_roots_more y ys x) ∙ z)

  pick_here : (e x y : F) (f : F → F) (k : ℕ) → (x ≡ y) ⊎ (f x ≡ 𝟘) → e ⊗ f x ⊗ pow K x k ≡ cond (same x y) e 𝟘 ⊗ (f y ⊗ pow K y k)
  pick_here e x y f k h =
      let away : (x ≡ y) ⊎ (f x ≡ 𝟘) → ¬ (x ≡ y) → f x ≡ 𝟘 = λ h n. elim h [ inl e ↦ absurd (n e) | inr z ↦ z ] in
      (elim (same x y) as (λ t. same x y ≡ t → e ⊗ f x ⊗ pow K x k ≡ cond t e 𝟘 ⊗ (f y ⊗ pow K y k)) [
        | true ↦ λ s. ap (λ a. e ⊗ f a ⊗ pow K a k) (L.same_true x y s) ∙ mul_assoc L e (f y) (pow K y k)
        | false ↦ λ s. ap (λ a. e ⊗ a ⊗ pow K x k) (away h (apart_of_false (compares L) x y s)) ∙ simp (ring, L)
      ]) refl

  pick_step : (a b d : F) → a ⊗ d ⊕ b ⊗ d ≡ (a ⊕ b) ⊗ d
  pick_step a b d = simp (ring, L)

  -- a factor that vanishes at each locator but y picks the value at y
  pub picked : (y : F) (f : F → F) (ps : List (Term F)) (k : ℕ) → Each (λ x. (x ≡ y) ⊎ (f x ≡ 𝟘)) (locators ps)
      → psum K (weigh K f ps) k ≡ value_at K ps y ⊗ (f y ⊗ pow K y k)
  picked y f [] k h = simp (ring, L)
  picked y f (p ∷ ps) k h =
      let d = f y ⊗ pow K y k in
      ap₂ ◌⊕◌ (pick_here p.value p.at y f k h.0) (picked y f ps k h.1) ∙ pick_step (cond (same p.at y) p.value 𝟘) (value_at K ps y) d

  seen : (y : F) (ys : List F) (xs : List F) → Each (λ x. (x ≡ y) ⊎ Within x ys) xs → Each (λ x. (x ≡ y) ⊎ (eval_low K (from_roots K ys) x ≡ 𝟘)) xs
  seen y ys [] h = tt
  seen y ys (x ∷ xs) h = (elim h.0 [ inl e ↦ inl e | inr k ↦ inr (root_zero x ys k) ], seen y ys xs h.1)

  quotient_of : (v d s : F) → Nonzero K d → s ≡ v ⊗ d → v ≡ s ⊗ inv d
  quotient_of v d s apart e = sym (mul-one L v) ∙ ap (λ a. v ⊗ a) (sym (L.mul_inv d apart)) ∙ sym (mul_assoc L v d (inv d)) ∙ ap (λ a. a ⊗ inv d) (sym e)

  value_step : (v p y : F) → v ⊗ (p ⊗ (y ⊗ 𝟙)) ≡ v ⊗ (y ⊗ p)
  value_step v p y = simp (ring, L)

  -- the value at y, where each locator is y or one of ys, and y is not zero and none of ys
  pub value_from : (y : F) (ys : List F) (ps : List (Term F)) → Nonzero K y → Each (λ z. ¬ (z ≡ y)) ys → Each (λ x. (x ≡ y) ⊎ Within x ys) (locators ps)
      → value_at K ps y ≡ slide K (from_roots K ys) (psum K ps) 1 ⊗ inv (y ⊗ eval_low K (from_roots K ys) y)
  value_from y ys ps nonzero away among =
      let f = eval_low K (from_roots K ys) in
      quotient_of (value_at K ps y) (y ⊗ f y) (slide K (from_roots K ys) (psum K ps) 1) (mul_apart L y (f y) nonzero (root_apart y ys away))
      (slide_psum L (from_roots K ys) ps 1 ∙ picked y f ps 1 (seen y ys (locators ps) among) ∙ value_step (value_at K ps y) (f y) y)
