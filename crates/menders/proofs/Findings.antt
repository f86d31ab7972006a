-- Steps of the values at the places that were found, and of the list of changes.
use Rattle.std.proofs.Common.{◌≡◌, ℕ, zero, suc, ◌+◌, ◌-◌, ◌<◌, ◌≤◌, true, false, cond, ◌||◌, eqb, List, [], ◌∷◌, ◌++◌, length, get_or, drop, sym, refl, ap, ◌∙◌, add-one, arith, length-append}
use lib.Bits.{bit_xor}
use Rattle.std.proofs.lemmas.List.{append_assoc, drop_more}
use Rattle.std.proofs.lemmas.Bool.{eq-eqb, ne_eqb, eqb-true, eqb-false, both_ways}
use Rattle.std.specs.List.{list_any}
use Rattle.elements.specs.Octets.{octets, product, power}
use Rattle.coding.specs.Sums.{slide, eval_low}
use Rattle.coding.specs.Decoder.{roots, correction}
use Rattle.coding.specs.Kernel.{dot}
use Rattle.words.specs.declared.change.Change.{Change}
use Rattle.menders.specs.Locators.{entries}
use Rattle.menders.specs.Repairs.{repairs}
use Rattle.menders.proofs.Repairing.{repairs_few}

-- the syndromes from k on, as an equation at the coefficients of a polynomial
pub slide_dot : (s P : List ℕ) (k : ℕ) → k + length P ≤ length s → dot octets (drop k s) P ≡ slide octets P (entries s) k
slide_dot s [] k fits = dot_nil (drop k s)
  where
    dot_nil : (r : List ℕ) → dot octets r [] ≡ 0
    dot_nil [] = refl
    dot_nil (a ∷ r) = refl
slide_dot s (v ∷ P) k fits =
    ap (λ r. dot octets r (v ∷ P)) (drop_more s k 0 (omega arith) ∙ ap (λ i. get_or s k 0 ∷ drop i s) (add-one k))
    ∙ ap (bit_xor (product v (get_or s k 0))) (slide_dot s P (suc k) (omega arith))

-- the locator of a place is found just where the vector vanishes at it

found_vanishes : (v : List ℕ) (y n : ℕ) → list_any (λ z. eqb z y) (roots octets power v n) ≡ true → eval_low octets v y ≡ 0
found_vanishes v y zero h = cc
found_vanishes v y (suc n) h =
    let R = roots octets power v n in
    let any = λ (l : List ℕ). list_any (λ z. eqb z y) l in
    (elim (eqb (eval_low octets v (power n)) 0) as (λ t. eqb (eval_low octets v (power n)) 0 ≡ t → any (cond t (power n ∷ R) R) ≡ true → eval_low octets v y ≡ 0) [
      | true ↦ λ z g. (elim (eqb (power n) y) as (λ b. eqb (power n) y ≡ b → (b || any R) ≡ true → eval_low octets v y ≡ 0) [
        | true ↦ λ e _. ap (eval_low octets v) (sym (eqb-true (power n) y e)) ∙ eqb-true _ _ z
        | false ↦ λ e f. found_vanishes v y n f
      ]) refl g
      | false ↦ λ z g. found_vanishes v y n g
    ]) refl h

vanishing_found : (v : List ℕ) (k n : ℕ) → k < n → eval_low octets v (power k) ≡ 0 → list_any (λ z. eqb z (power k)) (roots octets power v n) ≡ true
vanishing_found v k zero below e = absurd (omega arith)
vanishing_found v k (suc n) below e =
    let R = roots octets power v n in
    let any = λ (l : List ℕ). list_any (λ z. eqb z (power k)) l in
    (elim (eqb k n) as (λ t. eqb k n ≡ t → any (roots octets power v (suc n)) ≡ true) [
      | true ↦ λ z. let same : k ≡ n = eqb-true k n z in
          ap (λ t. any (cond t (power n ∷ R) R)) (eq-eqb (eval_low octets v (power n)) 0 (ap (λ i. eval_low octets v (power i)) (sym same) ∙ e))
          ∙ ap (λ b. b || any R) (eq-eqb (power n) (power k) (ap power (sym same)))
      | false ↦ λ z. let rest = vanishing_found v k n (let apart = eqb-false k n z in omega arith) e in
          elim (eqb (eval_low octets v (power n)) 0) as (λ t. any (cond t (power n ∷ R) R) ≡ true) [
            | true ↦ elim (eqb (power n) (power k)) as (λ b. (b || any R) ≡ true) [ true ↦ refl | false ↦ rest ]
            | false ↦ rest
          ]
    ]) refl

pub found_where : (v ys : List ℕ) (k n : ℕ) → ys ≡ roots octets power v n → k < n → list_any (λ z. eqb z (power k)) ys ≡ eqb (eval_low octets v (power k)) 0
found_where v ys k n e below =
    let any = list_any (λ z. eqb z (power k)) ys in
    let back = ap (λ l. list_any (λ z. eqb z (power k)) l) e in
    (elim any as (λ t. any ≡ t → t ≡ eqb (eval_low octets v (power k)) 0) [
      | true ↦ λ h. sym (eq-eqb (eval_low octets v (power k)) 0 (found_vanishes v (power k) n (sym back ∙ h)))
      | false ↦ λ h. sym (ne_eqb (eval_low octets v (power k)) 0 (λ z. both_ways any h (back ∙ vanishing_found v k n below z)))
    ]) refl

-- the octet e that is to be added at a place tells whether there is a change more
module _ (s : ℕ → ℕ) (v ys : List ℕ) (n k e : ℕ) (all : ys ≡ roots octets power v n) (few : length ys ≤ 8) (some : 0 < k) (value : e ≡ correction octets s v ys (power (k - 1))) where
  abbrev left_of : ℕ → List Change
  left_of k = repairs (correction octets s v ys) n k

  abbrev change : Change
  change = record { place = n - 1 - (k - 1); octet = e }

  repair_is : left_of k ≡ cond (eqb e 0) (left_of (k - 1)) (change ∷ left_of (k - 1))
  repair_is =
      let back : k ≡ suc (k - 1) = omega arith in
      ap left_of back ∙ ap (λ o. cond (eqb o 0) (left_of (k - 1)) (record { place = n - 1 - (k - 1); octet = o } ∷ left_of (k - 1))) (sym value)

  -- the changes at the places before are made
  module _ (made : List Change) (so_far : made ++ left_of k ≡ left_of n) where
    pub passed_over : e ≡ 0 → made ++ left_of (k - 1) ≡ left_of n
    passed_over none =
        let skip = repair_is ∙ ap (λ t. cond t (left_of (k - 1)) (change ∷ left_of (k - 1))) (eq-eqb e 0 none) in
        ap (λ l. made ++ l) (sym skip) ∙ so_far

    module _ (apart : e ≡ 0 → ⊥) where
      left : made ++ (change ∷ left_of (k - 1)) ≡ left_of n
      left =
          let next = repair_is ∙ ap (λ t. cond t (left_of (k - 1)) (change ∷ left_of (k - 1))) (ne_eqb e 0 apart) in
          ap (λ l. made ++ l) (sym next) ∙ so_far

      pub room : length made < 8
      room = omega (arith, few, ap length all, repairs_few s v ys n n, ap length left, length-append made (change ∷ left_of (k - 1)))

      pub added : (made ++ (change ∷ [])) ++ left_of (k - 1) ≡ left_of n
      added = append_assoc made (change ∷ []) (left_of (k - 1)) ∙ left
