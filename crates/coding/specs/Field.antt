-- The laws of a field of characteristic two: one and one is zero, so that each element is its own negative.
use Rattle.std.specs.Prelude.{◌≡◌, true}
use Rattle.elements.specs.Laws.{Operations}

module _ {F : Type 0} (K : Operations F) where
  open K use {zero as 𝟘, one as 𝟙, add as ◌⊕◌, neg, mul as ◌⊗◌, inv, same}

  infixl 65 ◌⊕◌
  infixl 70 ◌⊗◌
  pub record Field : Type 0 where
    pub add-zero : (x : F) → x ⊕ 𝟘 ≡ x
    pub add_comm : (x y : F) → x ⊕ y ≡ y ⊕ x
    pub add_assoc : (x y z : F) → (x ⊕ y) ⊕ z ≡ x ⊕ (y ⊕ z)
    pub add_self : (x : F) → x ⊕ x ≡ 𝟘
    pub neg_self : (x : F) → neg x ≡ x
    pub mul-one : (x : F) → x ⊗ 𝟙 ≡ x
    pub mul_comm : (x y : F) → x ⊗ y ≡ y ⊗ x
    pub mul_assoc : (x y z : F) → (x ⊗ y) ⊗ z ≡ x ⊗ (y ⊗ z)
    pub distrib : (x y z : F) → x ⊗ (y ⊕ z) ≡ (x ⊗ y) ⊕ (x ⊗ z)
    pub mul_inv : (x : F) → ¬ (x ≡ 𝟘) → x ⊗ inv x ≡ 𝟙
    pub one_not_zero : ¬ (𝟙 ≡ 𝟘)
    pub same_true : (x y : F) → same x y ≡ true → x ≡ y
    pub same_refl : (x : F) → same x x ≡ true
