-- What the laws of a field of characteristic two give.
use Rattle.std.proofs.Common.{◌≡◌, ℕ, zero, suc, ◌+◌, true, false, sym, refl, ap, ◌∙◌, suc-add, zero-add}
use Rattle.std.proofs.lemmas.Bool.{both_ways}
use Rattle.elements.specs.Laws.{Operations, Compares}
use Rattle.coding.specs.Field.{Field}
use Rattle.coding.specs.Sums.{pow}

pub apart_false : {F : Type 0} {K : Operations F} → Compares K → (x y : F) → ¬ (x ≡ y) → K.same x y ≡ false
apart_false {K} C x y n = (elim (K.same x y) as (λ t. K.same x y ≡ t → t ≡ false) [ true ↦ λ e. absurd (n (C.equal x y e)) | false ↦ λ e. refl ]) refl

pub apart_of_false : {F : Type 0} {K : Operations F} → Compares K → (x y : F) → K.same x y ≡ false → ¬ (x ≡ y)
apart_of_false {K} C x y h e = both_ways (K.same x y) h (C.alike x y e)

module _ {F : Type 0} {K : Operations F} (L : Field K) where
  open K use {zero as 𝟘, one as 𝟙, add as ◌⊕◌, mul as ◌⊗◌, inv, same}

  infixl 65 ◌⊕◌
  infixl 70 ◌⊗◌
  pub add-zero : (x : F) → x ⊕ 𝟘 ≡ x
  add-zero = L.add-zero

  pub add_comm : (x y : F) → x ⊕ y ≡ y ⊕ x
  add_comm = L.add_comm

  pub add_assoc : (x y z : F) → (x ⊕ y) ⊕ z ≡ x ⊕ (y ⊕ z)
  add_assoc = L.add_assoc

  pub add_self : (x : F) → x ⊕ x ≡ 𝟘
  add_self = L.add_self

  pub neg_self : (x : F) → K.neg x ≡ x
  neg_self = L.neg_self

  pub mul-one : (x : F) → x ⊗ 𝟙 ≡ x
  mul-one = L.mul-one

  pub mul_comm : (x y : F) → x ⊗ y ≡ y ⊗ x
  mul_comm = L.mul_comm

  pub mul_assoc : (x y z : F) → (x ⊗ y) ⊗ z ≡ x ⊗ (y ⊗ z)
  mul_assoc = L.mul_assoc

  pub distrib : (x y z : F) → x ⊗ (y ⊕ z) ≡ (x ⊗ y) ⊕ (x ⊗ z)
  distrib = L.distrib

  pub zero_plus : (x : F) → 𝟘 ⊕ x ≡ x
  zero_plus x = add_comm 𝟘 x ∙ add-zero x

  pub add_left_comm : (x y z : F) → x ⊕ (y ⊕ z) ≡ y ⊕ (x ⊕ z)
  add_left_comm x y z = sym (add_assoc x y z) ∙ ap (λ a. a ⊕ z) (add_comm x y) ∙ add_assoc y x z

  pub mul_left_comm : (x y z : F) → x ⊗ (y ⊗ z) ≡ y ⊗ (x ⊗ z)
  mul_left_comm x y z = sym (mul_assoc x y z) ∙ ap (λ a. a ⊗ z) (mul_comm x y) ∙ mul_assoc y x z

  -- in a sum, what stands twice side by side goes out
  pub add_twice : (x y : F) → x ⊕ (x ⊕ y) ≡ y
  add_twice x y = sym (add_assoc x x y) ∙ ap (λ a. a ⊕ y) (add_self x) ∙ zero_plus y

  pub same_of_sum : (x y : F) → x ⊕ y ≡ 𝟘 → x ≡ y
  same_of_sum x y h = sym (add-zero x) ∙ ap (λ a. x ⊕ a) (sym h) ∙ add_twice x y

  pub mul-zero : (x : F) → x ⊗ 𝟘 ≡ 𝟘
  mul-zero x =
      let h : x ⊗ 𝟘 ≡ x ⊗ 𝟘 ⊕ x ⊗ 𝟘 = ap (λ a. x ⊗ a) (sym (add-zero 𝟘)) ∙ distrib x 𝟘 𝟘 in
      h ∙ add_self (x ⊗ 𝟘)

  pub zero-mul : (x : F) → 𝟘 ⊗ x ≡ 𝟘
  zero-mul x = L.mul_comm 𝟘 x ∙ mul-zero x

  pub one_mul : (x : F) → 𝟙 ⊗ x ≡ x
  one_mul x = L.mul_comm 𝟙 x ∙ mul-one x

  pub distrib_right : (x y z : F) → (x ⊕ y) ⊗ z ≡ (x ⊗ z) ⊕ (y ⊗ z)
  distrib_right x y z = mul_comm (x ⊕ y) z ∙ distrib z x y ∙ simp mul_comm

  -- a field has no zero divisors
  pub zero_factor : (x y : F) → ¬ (y ≡ 𝟘) → x ⊗ y ≡ 𝟘 → x ≡ 𝟘
  zero_factor x y apart h =
      sym (mul-one x)
      ∙ ap (λ a. x ⊗ a) (sym (L.mul_inv y apart))
      ∙ sym (mul_assoc x y (inv y))
      ∙ ap (λ a. a ⊗ inv y) h
      ∙ zero-mul (inv y)

  pub mul_apart : (x y : F) → ¬ (x ≡ 𝟘) → ¬ (y ≡ 𝟘) → ¬ (x ⊗ y ≡ 𝟘)
  mul_apart x y hx hy h = hx (zero_factor x y hy h)

  pub sum_apart : (x y : F) → ¬ (x ≡ y) → ¬ (x ⊕ y ≡ 𝟘)
  sum_apart x y h s = h (same_of_sum x y s)

  pub compares : Compares K
  compares = record { equal = L.same_true; alike = λ x y e. ap (same x) (sym e) ∙ L.same_refl x }

  pub pow_apart : (x : F) (n : ℕ) → ¬ (x ≡ 𝟘) → ¬ (pow K x n ≡ 𝟘)
  pow_apart x zero h = L.one_not_zero
  pow_apart x (suc n) h = mul_apart x (pow K x n) h (pow_apart x n h)

  pub pow-add : (x : F) (m n : ℕ) → pow K x (m + n) ≡ pow K x m ⊗ pow K x n
  pow-add x zero n = ap (pow K x) (zero-add n) ∙ sym (one_mul (pow K x n))
  pow-add x (suc m) n = ap (pow K x) (suc-add m n) ∙ ap (λ a. x ⊗ a) (pow-add x m n) ∙ sym (mul_assoc x (pow K x m) (pow K x n))

  pub pow_mul : (x y : F) (n : ℕ) → pow K (x ⊗ y) n ≡ pow K x n ⊗ pow K y n
  pow_mul x y zero = sym (mul-one 𝟙)
  pow_mul x y (suc n) = ap (λ a. x ⊗ y ⊗ a) (pow_mul x y n) ∙ simp (mul_comm, mul_assoc)

  pub pow_of_one : (n : ℕ) → pow K 𝟙 n ≡ 𝟙
  pow_of_one zero = refl
  pow_of_one (suc n) = one_mul (pow K 𝟙 n) ∙ pow_of_one n

  pub pow_swap : (x : F) (m n : ℕ) → pow K (pow K x m) n ≡ pow K (pow K x n) m
  pow_swap x zero n = pow_of_one n
  pow_swap x (suc m) n = pow_mul x (pow K x m) n ∙ ap (λ a. pow K x n ⊗ a) (pow_swap x m n)

-- `simp (ring, L)` brings both sides of an equation between polynomials to one form: products distributed, sums and products in order,
-- and what stands twice in a sum gone
pub ruleset ring = (add_twice, add_self, add-zero, zero_plus, mul-zero, zero-mul, mul-one, one_mul, distrib, distrib_right, add_assoc, add_left_comm, add_comm, mul_assoc, mul_left_comm, mul_comm)
