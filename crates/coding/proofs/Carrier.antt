-- The proper values of a kind whose laws hold only of those are a field, and what is computed in it is computed of the values.
use Rattle.std.proofs.Common.{◌≡◌, ℕ, zero, suc, ◌+◌, cond, List, [], ◌∷◌, ◌++◌, map, length, drop, replicate, sym, refl, ap, ◌∙◌, ap₂}
use mathlib.Core.HLevel.{Σ_prop_path}
use mathlib.Core.List.{map-append}
use lib.ListN.{length-map}
use Rattle.std.specs.List.{AllByRecursion as Each}
use Rattle.std.proofs.lemmas.List.{drop-map}
use Rattle.elements.specs.Laws.{Operations, Laws}
use Rattle.polynomials.specs.Differences.{differing}
use Rattle.polynomials.specs.Division.{less, divided}
use Rattle.coding.specs.Field.{Field}
use Rattle.coding.specs.Sums.{horner}
use Rattle.coding.proofs.DivisionValues.{left}

-- the laws of a field of characteristic two, at proper values
pub record FieldOn {A : Type 0} (ok : A → Type 0) (K : Operations A) : Type 0 where
  pub once : (x : A) → IsProp (ok x)
  pub laws : Laws ok K
  pub add_self : (x : A) → ok x → K.add x x ≡ K.zero
  pub neg_self : (x : A) → ok x → K.neg x ≡ x
  pub one_not_zero : ¬ (K.one ≡ K.zero)

-- a proper value
abbrev pub Part : (A : Type 0) → (A → Type 0) → Type 0
Part A ok = (x : A) × ok x

module _ {A : Type 0} {ok : A → Type 0} where
  abbrev pub low : List (Part A ok) → List A
  low xs = map (λ x. x.0) xs

  pub low_ok : (xs : List (Part A ok)) → Each ok (low xs)
  low_ok [] = tt
  low_ok (x ∷ xs) = (x.1, low_ok xs)

  pub length_low : (xs : List (Part A ok)) → length (low xs) ≡ length xs
  length_low xs = length-map xs (λ x. x.0)

  pub low_replicate : (n : ℕ) (x : Part A ok) → low (replicate n x) ≡ replicate n x.0
  low_replicate zero x = refl
  low_replicate (suc n) x = ap {B = List A} (λ r. x.0 ∷ r) (low_replicate n x)

module _ {A : Type 0} (ok : A → Type 0) where
  abbrev pub lift : (xs : List A) → Each ok xs → List (Part A ok)
  lift [] h = []
  lift (x ∷ xs) h = (x, h.0) ∷ lift xs h.1

  pub low_lift : (xs : List A) (h : Each ok xs) → low (lift xs h) ≡ xs
  low_lift [] h = refl
  low_lift (x ∷ xs) h = ap {B = List A} (λ r. x ∷ r) (low_lift xs h.1)

  pub length_lift : (xs : List A) (h : Each ok xs) → length (lift xs h) ≡ length xs
  length_lift [] h = refl
  length_lift (x ∷ xs) h = ap suc (length_lift xs h.1)

abbrev pub part_ops : {A : Type 0} {ok : A → Type 0} {K : Operations A} → FieldOn ok K → Operations (Part A ok)
part_ops {K} H = let c = H.laws.closed in record {
  zero = (K.zero, c.zero);
  one = (K.one, c.one);
  add = λ x y. (K.add x.0 y.0, c.add x.0 y.0 x.1 y.1);
  neg = λ x. (K.neg x.0, c.neg x.0 x.1);
  mul = λ x y. (K.mul x.0 y.0, c.mul x.0 y.0 x.1 y.1);
  inv = λ x. (K.inv x.0, H.laws.inverses.inv_ok x.0 x.1);
  same = λ x y. K.same x.0 y.0;
}

module _ {A : Type 0} {ok : A → Type 0} {K : Operations A} (H : FieldOn ok K) where
  open K use {zero as 𝟘, add as ◌⊕◌, mul as ◌⊗◌, neg, same}

  infixl 65 ◌⊕◌
  infixl 70 ◌⊗◌
  abbrev P : Operations (Part A ok)
  P = part_ops H

  pub part_path : (x y : Part A ok) → x.0 ≡ y.0 → x ≡ y
  part_path x y e = Σ_prop_path H.once e

  pub part_field : Field (part_ops H)
  part_field = let r = H.laws.ring in record {
    add-zero = λ x. part_path _ _ (r.add-zero x.0 x.1);
    add_comm = λ x y. part_path _ _ (r.add_comm x.0 y.0 x.1 y.1);
    add_assoc = λ x y z. part_path _ _ (r.add_assoc x.0 y.0 z.0 x.1 y.1 z.1);
    add_self = λ x. part_path _ _ (H.add_self x.0 x.1);
    neg_self = λ x. part_path _ _ (H.neg_self x.0 x.1);
    mul-one = λ x. part_path _ _ (r.mul-one x.0 x.1);
    mul_comm = λ x y. part_path _ _ (r.mul_comm x.0 y.0 x.1 y.1);
    mul_assoc = λ x y z. part_path _ _ (r.mul_assoc x.0 y.0 z.0 x.1 y.1 z.1);
    distrib = λ x y z. part_path _ _ (r.mul-add x.0 y.0 z.0 x.1 y.1 z.1);
    mul_inv = λ x h. part_path _ _ (H.laws.inverses.mul_inv x.0 x.1 (λ e. h (part_path _ _ e)));
    one_not_zero = λ e. H.one_not_zero (ap (λ x. x.0) e);
    same_true = λ x y h. part_path _ _ (H.laws.compares.equal x.0 y.0 h);
    same_refl = λ x. H.laws.compares.alike x.0 x.0 refl;
  }

  -- each definition comes to the same in the field and at the values

  pub low_horner : (acc : Part A ok) (w : List (Part A ok)) (x : Part A ok) → (horner P acc w x).0 ≡ horner K acc.0 (low w) x.0
  low_horner acc [] x = refl
  low_horner acc (a ∷ w) x = low_horner (P.add (P.mul acc x) a) w x

  pub low_differing : (w c : List (Part A ok)) → differing P w c ≡ differing K (low w) (low c)
  low_differing [] c = refl
  low_differing (a ∷ w) [] = refl
  low_differing (a ∷ w) (b ∷ c) = ap (λ n. cond (same a.0 b.0) 0 1 + n) (low_differing w c)

  low_less : (f : Part A ok) (gs xs : List (Part A ok)) → low (less P f gs xs) ≡ less K f.0 (low gs) (low xs)
  low_less f [] xs = refl
  low_less f (g ∷ gs) [] = refl
  low_less f (g ∷ gs) (x ∷ xs) = ap {B = List A} (λ r. (x.0 ⊕ neg (f.0 ⊗ g.0)) ∷ r) (low_less f gs xs)

  low_divided : (u : Part A ok) (gs : List (Part A ok)) (n : ℕ) (xs : List (Part A ok)) → low (divided P u gs n xs) ≡ divided K u.0 (low gs) n (low xs)
  low_divided u gs zero xs = refl
  low_divided u gs (suc n) [] = refl
  low_divided u gs (suc n) (x ∷ xs) =
      let f = P.mul x u in
      ap {B = List A} (λ r. f.0 ∷ r) (low_divided u gs n (less P f gs xs) ∙ ap (divided K u.0 (low gs) n) (low_less f gs xs))

  pub low_left : (u : Part A ok) (gs m : List (Part A ok)) → low (left P u gs m) ≡ left K u.0 (low gs) (low m)
  low_left u gs m =
      let zeros : low (m ++ replicate (length gs) P.zero) ≡ low m ++ replicate (length (low gs)) 𝟘 =
      map-append (λ x. x.0) m _ ∙ ap (λ r. low m ++ r) (low_replicate (length gs) P.zero ∙ ap (λ n. replicate n 𝟘) (sym (length_low gs))) in
      sym (drop-map (λ x. x.0) (length m) _)
      ∙ ap (drop (length m)) (low_divided u gs (length m) (m ++ replicate (length gs) P.zero))
      ∙ ap₂ (λ n r. drop n (divided K u.0 (low gs) n r)) (sym (length_low m)) zeros
