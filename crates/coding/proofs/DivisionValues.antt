-- A division keeps the value at a root of the divisor, so a message with the remainder behind it vanishes there.
use Rattle.std.proofs.Common.{◌≡◌, ℕ, zero, suc, ◌+◌, ◌-◌, List, [], ◌∷◌, ◌++◌, length, drop, replicate, sym, refl, ap, ◌∙◌, ap₂, arith, length-append, length-drop}
use lib.ListN.{length-replicate}
use Rattle.elements.specs.Laws.{Operations}
use Rattle.polynomials.specs.Division.{less, divided}
use Rattle.coding.specs.Field.{Field}
use Rattle.coding.specs.Sums.{pow}
use Rattle.coding.proofs.FieldLaws.{ring, same_of_sum, pow-add, neg_self}
use Rattle.coding.proofs.Distance.{eval_high}

module _ {F : Type 0} (K : Operations F) where
  length_less : (f : F) (gs xs : List F) → length (less K f gs xs) ≡ length xs
  length_less f [] xs = refl
  length_less f (g ∷ gs) [] = refl
  length_less f (g ∷ gs) (x ∷ xs) = ap suc (length_less f gs xs)

  length_divided : (u : F) (gs : List F) (n : ℕ) (xs : List F) → length (divided K u gs n xs) ≡ length xs
  length_divided u gs zero xs = refl
  length_divided u gs (suc n) [] = refl
  length_divided u gs (suc n) (x ∷ xs) = ap suc (length_divided u gs n (less K (K.mul x u) gs xs) ∙ length_less (K.mul x u) gs xs)

  -- what is left of the message and as many zeros as the divisor has lower coefficients
  abbrev pub left : F → List F → List F → List F
  left u gs m = drop (length m) (divided K u gs (length m) (m ++ replicate (length gs) K.zero))

  pub length_left : (u : F) (gs m : List F) → length (left u gs m) ≡ length gs
  length_left u gs m =
      length-drop (length m) (divided K u gs (length m) (m ++ replicate (length gs) K.zero))
      ∙ ap (λ n. n - length m) (length_divided u gs (length m) (m ++ replicate (length gs) K.zero) ∙ length-append m (replicate (length gs) K.zero))
      ∙ omega (arith, length-replicate (length gs) K.zero)

module _ {F : Type 0} {K : Operations F} (L : Field K) where
  open K use {zero as 𝟘, one as 𝟙, add as ◌⊕◌, mul as ◌⊗◌}

  infixl 65 ◌⊕◌
  infixl 70 ◌⊗◌
  pow_length : (x : F) (n d e : ℕ) → n ≡ d + e → pow K x n ≡ pow K x e ⊗ pow K x d
  pow_length x n d e h = ap (pow K x) h ∙ pow-add L x d e ∙ simp (ring, L)

  less_step : (y f g p q a b : F) → (y ⊕ f ⊗ g) ⊗ (p ⊗ q) ⊕ (b ⊕ f ⊗ (a ⊗ q)) ≡ (y ⊗ (p ⊗ q) ⊕ b) ⊕ f ⊗ ((g ⊗ p ⊕ a) ⊗ q)
  less_step y f g p q a b = simp (ring, L)

  less_value : (f x : F) (gs xs : List F) (d : ℕ) → length xs ≡ d + length gs
      → eval_high K (less K f gs xs) x ≡ eval_high K xs x ⊕ f ⊗ (eval_high K gs x ⊗ pow K x d)
  less_value f x [] xs d len = simp (ring, L)
  less_value f x (g ∷ gs) [] d len = absurd (omega arith)
  less_value f x (g ∷ gs) (y ∷ ys) d len =
      let long : pow K x (length ys) ≡ pow K x (length gs) ⊗ pow K x d = pow_length x (length ys) d (length gs) (omega arith) in
      let left_long : pow K x (length (less K f gs ys)) ≡ pow K x (length gs) ⊗ pow K x d = ap (pow K x) (length_less K f gs ys) ∙ long in
      ap₂ (λ n p. (y ⊕ n) ⊗ p ⊕ eval_high K (less K f gs ys) x) (neg_self L (f ⊗ g)) left_long
      ∙ ap (λ r. (y ⊕ f ⊗ g) ⊗ (pow K x (length gs) ⊗ pow K x d) ⊕ r) (less_value f x gs ys d (omega arith))
      ∙ less_step y f g (pow K x (length gs)) (pow K x d) (eval_high K gs x) (eval_high K ys x)
      ∙ ap (λ p. (y ⊗ p ⊕ eval_high K ys x) ⊕ f ⊗ ((g ⊗ pow K x (length gs) ⊕ eval_high K gs x) ⊗ pow K x d)) (sym long)

  divided_step : (y u g p q b : F) → b ⊕ y ⊗ u ⊗ (g ⊗ p ⊗ q) ≡ y ⊗ (g ⊗ u) ⊗ (p ⊗ q) ⊕ b
  divided_step y u g p q b = simp (ring, L)

  one_step : (y p b : F) → y ⊗ 𝟙 ⊗ p ⊕ b ≡ y ⊗ p ⊕ b
  one_step y p b = simp (ring, L)

  -- u is the inverse of the divisor's highest coefficient g
  divided_value : (u g x : F) (gs : List F) → g ⊗ u ≡ 𝟙 → eval_high K (g ∷ gs) x ≡ 𝟘 → (n : ℕ) (xs : List F) → length xs ≡ n + length gs
      → eval_high K (drop n (divided K u gs n xs)) x ≡ eval_high K xs x
  divided_value u g x gs unit root zero xs len = refl
  divided_value u g x gs unit root (suc n) [] len = absurd (omega arith)
  divided_value u g x gs unit root (suc n) (y ∷ ys) len =
      let p = pow K x (length gs) in
      let q = pow K x n in
      let b = eval_high K ys x in
      let low : eval_high K gs x ≡ g ⊗ p = sym (same_of_sum L (g ⊗ p) (eval_high K gs x) root) in
      divided_value u g x gs unit root n (less K (y ⊗ u) gs ys) (length_less K (y ⊗ u) gs ys ∙ omega arith)
      ∙ less_value (y ⊗ u) x gs ys n (omega arith)
      ∙ ap (λ r. b ⊕ y ⊗ u ⊗ (r ⊗ q)) low
      ∙ divided_step y u g p q b
      ∙ ap₂ (λ r s. y ⊗ r ⊗ s ⊕ b) unit (sym (pow_length x (length ys) n (length gs) (omega arith)))
      ∙ one_step y (pow K x (length ys)) b

  append_step : (a p q e r : F) → a ⊗ (q ⊗ p) ⊕ (e ⊗ q ⊕ r) ≡ (a ⊗ p ⊕ e) ⊗ q ⊕ r
  append_step a p q e r = simp (ring, L)

  append_value : (x : F) (xs ys : List F) → eval_high K (xs ++ ys) x ≡ eval_high K xs x ⊗ pow K x (length ys) ⊕ eval_high K ys x
  append_value x [] ys = simp (ring, L)
  append_value x (a ∷ xs) ys =
      ap₂ (λ p r. a ⊗ p ⊕ r) (pow_length x (length (xs ++ ys)) (length xs) (length ys) (length-append xs ys)) (append_value x xs ys)
      ∙ append_step a (pow K x (length xs)) (pow K x (length ys)) (eval_high K xs x) (eval_high K ys x)

  zeros_value : (x : F) (n : ℕ) → eval_high K (replicate n 𝟘) x ≡ 𝟘
  zeros_value x zero = refl
  zeros_value x (suc n) = ap (λ r. 𝟘 ⊗ pow K x (length (replicate n 𝟘)) ⊕ r) (zeros_value x n) ∙ simp (ring, L)

  pub left_value : (u g x : F) (gs : List F) → g ⊗ u ≡ 𝟙 → eval_high K (g ∷ gs) x ≡ 𝟘 → (m : List F) → eval_high K (m ++ left K u gs m) x ≡ 𝟘
  left_value u g x gs unit root m =
      let zs = replicate (length gs) 𝟘 in
      let long : length (m ++ zs) ≡ length m + length gs = length-append m zs ∙ ap (λ n. length m + n) (length-replicate (length gs) 𝟘) in
      append_value x m (left K u gs m)
      ∙ ap₂ (λ n r. eval_high K m x ⊗ pow K x n ⊕ r)
      (length_left K u gs m ∙ sym (length-replicate (length gs) 𝟘))
      (divided_value u g x gs unit root (length m) (m ++ zs) long ∙ append_value x m zs ∙ ap (λ r. eval_high K m x ⊗ pow K x (length zs) ⊕ r) (zeros_value x (length gs)))
      ∙ simp (ring, L)
