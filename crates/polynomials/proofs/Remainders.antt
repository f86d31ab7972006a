-- What long division leaves is the remainder: quotient times divisor plus remainder is the row that was divided.
use Rattle.std.proofs.Common.{◌≡◌, ℕ, zero, suc, ◌+◌, ◌-◌, ◌≤◌, Bool, true, false, cond, List, [], ◌∷◌, map, length, take, drop, replicate, Some, None, Option, sym, refl, ap, ◌∙◌, ap₂, subst₂, true≢false, le_of_suc-le-suc, not-suc-le-zero, arith, length-drop, length-take}
use Rattle.std.specs.List.{AllByRecursion as Each}
use Rattle.std.proofs.lemmas.List.{length-map}
use Rattle.std.proofs.ByRecursion.{All-append, All-take, All-drop}
use Rattle.elements.specs.Laws.{Operations, Laws}
use Rattle.polynomials.specs.Polynomials.{onto, padded, poly_sum, poly_product, Remainder}
use Rattle.polynomials.specs.Division.{less, divided, division, Left}

pub length_less : {E : Type 0} (o : Operations E) (f : E) (gs xs : List E) → length (less o f gs xs) ≡ length xs
length_less o f [] xs = refl
length_less o f (g ∷ gs) [] = refl
length_less o f (g ∷ gs) (x ∷ xs) = ap suc (length_less o f gs xs)

pub length_divided : {E : Type 0} (o : Operations E) (u : E) (gs : List E) (n : ℕ) (xs : List E) → length (divided o u gs n xs) ≡ length xs
length_divided o u gs zero xs = refl
length_divided o u gs (suc n) [] = refl
length_divided o u gs (suc n) (x ∷ xs) = ap suc (length_divided o u gs n (less o (o.mul x u) gs xs) ∙ length_less o (o.mul x u) gs xs)

pub length_onto : {E : Type 0} (o : Operations E) (xs ys : List E) → length xs ≤ length ys → length (onto o xs ys) ≡ length ys
length_onto o [] ys h = refl
length_onto o (x ∷ xs) [] h = absurd (not-suc-le-zero h)
length_onto o (x ∷ xs) (y ∷ ys) h = ap suc (length_onto o xs ys (le_of_suc-le-suc h))

pub onto_nil : {E : Type 0} (o : Operations E) (xs : List E) → onto o xs [] ≡ xs
onto_nil o [] = refl
onto_nil o (x ∷ xs) = refl

length_product : {E : Type 0} (o : Operations E) (q g : E) (qs gs : List E) → length (poly_product o (q ∷ qs) (g ∷ gs)) ≡ suc (length qs + length gs)
length_product o q g [] gs = ap suc (ap length (onto_nil o (map (o.mul q) gs)) ∙ length-map gs (o.mul q) ∙ omega arith)
length_product o q g (p ∷ qs) gs =
    let rest = length_product o p g qs gs in
    ap suc (length_onto o (map (o.mul q) gs) (poly_product o (p ∷ qs) (g ∷ gs)) (omega (arith, length-map gs (o.mul q), rest)) ∙ rest ∙ omega arith)

module _ {E : Type 0} {ok : E → Type 0} {o : Operations E} (laws : Laws ok o) where
  pub zero_plus : (y : E) → ok y → o.add o.zero y ≡ y
  zero_plus y hy = laws.ring.add_comm o.zero y laws.closed.zero hy ∙ laws.ring.add-zero y hy

  back : (x m : E) → ok x → ok m → o.add m (o.add x (o.neg m)) ≡ x
  back x m hx hm =
      let r = laws.ring in
      let hn = laws.closed.neg m hm in
      r.add_comm m (o.add x (o.neg m)) hm (laws.closed.add x (o.neg m) hx hn)
      ∙ r.add_assoc x (o.neg m) m hx hn hm ∙ ap (o.add x) (r.add_comm (o.neg m) m hn hm ∙ r.add_neg m hm) ∙ r.add-zero x hx

  pub less_ok : (f : E) (gs xs : List E) → ok f → Each ok gs → Each ok xs → Each ok (less o f gs xs)
  less_ok f [] xs hf hg hx = hx
  less_ok f (g ∷ gs) [] hf hg hx = tt
  less_ok f (g ∷ gs) (x ∷ xs) hf hg hx =
      (laws.closed.add x (o.neg (o.mul f g)) hx.0 (laws.closed.neg (o.mul f g) (laws.closed.mul f g hf hg.0)), less_ok f gs xs hf hg.1 hx.1)

  -- f times the divisor, added again to what the step left
  restored : (f : E) (gs xs : List E) → ok f → Each ok gs → Each ok xs → length gs ≤ length xs → onto o (map (o.mul f) gs) (less o f gs xs) ≡ xs
  restored f [] xs hf hg hx h = refl
  restored f (g ∷ gs) [] hf hg hx h = absurd (not-suc-le-zero h)
  restored f (g ∷ gs) (x ∷ xs) hf hg hx h =
      ap₂ (λ y ys. y ∷ ys) (back x (o.mul f g) hx.0 (laws.closed.mul f g hf hg.0)) (restored f gs xs hf hg.1 hx.1 (le_of_suc-le-suc h))

  pub onto_ok : (xs ys : List E) → Each ok xs → Each ok ys → Each ok (onto o xs ys)
  onto_ok [] ys hx hy = hy
  onto_ok (x ∷ xs) [] hx hy = hx
  onto_ok (x ∷ xs) (y ∷ ys) hx hy = (laws.closed.add x y hx.0 hy.0, onto_ok xs ys hx.1 hy.1)

  multiples_ok : (f : E) (gs : List E) → ok f → Each ok gs → Each ok (map (o.mul f) gs)
  multiples_ok f [] hf hg = tt
  multiples_ok f (g ∷ gs) hf hg = (laws.closed.mul f g hf hg.0, multiples_ok f gs hf hg.1)

  product_ok : (qs gs : List E) → Each ok qs → Each ok gs → Each ok (poly_product o qs gs)
  product_ok [] gs hq hg = tt
  product_ok (q ∷ qs) gs hq hg = onto_ok (map (o.mul q) gs) (o.zero ∷ poly_product o qs gs) (multiples_ok q gs hq.0 hg) (laws.closed.zero, product_ok qs gs hq.1 hg)

  pub zeros_ok : (n : ℕ) → Each ok (replicate n o.zero)
  zeros_ok zero = tt
  zeros_ok (suc n) = (laws.closed.zero, zeros_ok n)

  pub onto_assoc : (xs ys zs : List E) → Each ok xs → Each ok ys → Each ok zs → onto o (onto o xs ys) zs ≡ onto o xs (onto o ys zs)
  onto_assoc [] ys zs hx hy hz = refl
  onto_assoc (x ∷ xs) [] zs hx hy hz = refl
  onto_assoc (x ∷ xs) (y ∷ ys) [] hx hy hz = refl
  onto_assoc (x ∷ xs) (y ∷ ys) (z ∷ zs) hx hy hz =
      ap₂ (λ a l. a ∷ l) (laws.ring.add_assoc x y z hx.0 hy.0 hz.0) (onto_assoc xs ys zs hx.1 hy.1 hz.1)

  zeros_onto : (xs : List E) → Each ok xs → onto o (padded o (length xs) []) xs ≡ xs
  zeros_onto [] h = refl
  zeros_onto (x ∷ xs) h = ap₂ (λ a l. a ∷ l) (zero_plus x h.0) (zeros_onto xs h.1)

  padded_ok : (n : ℕ) (xs : List E) → Each ok xs → Each ok (padded o n xs)
  padded_ok n xs h = All-append ok (replicate n o.zero) xs (zeros_ok n) h

  pub divided_ok : (u : E) (gs : List E) (n : ℕ) (xs : List E) → ok u → Each ok gs → Each ok xs → Each ok (divided o u gs n xs)
  divided_ok u gs zero xs hu hg hx = hx
  divided_ok u gs (suc n) [] hu hg hx = tt
  divided_ok u gs (suc n) (x ∷ xs) hu hg hx =
      let hf = laws.closed.mul x u hx.0 hu in
      (hf, divided_ok u gs n (less o (o.mul x u) gs xs) hu hg (less_ok (o.mul x u) gs xs hf hg hx.1))

  first_back : (x u g : E) → ok x → ok u → ok g → o.mul g u ≡ o.one → o.add (o.add (o.mul (o.mul x u) g) o.zero) o.zero ≡ x
  first_back x u g hx hu hg e =
      let r = laws.ring in
      let hm = laws.closed.mul (o.mul x u) g (laws.closed.mul x u hx hu) hg in
      ap (λ a. o.add a o.zero) (r.add-zero (o.mul (o.mul x u) g) hm) ∙ r.add-zero (o.mul (o.mul x u) g) hm
      ∙ r.mul_assoc x u g hx hu hg ∙ ap (o.mul x) (r.mul_comm u g hu hg ∙ e) ∙ r.mul-one x hx

  module _ (u g : E) (gs : List E) (hu : ok u) (hg : ok g) (hgs : Each ok gs) (unit : o.mul g u ≡ o.one) where
    -- quotient times divisor, with what is left added behind the quotient's places
    whole : (n : ℕ) (xs : List E) → Each ok xs → length xs ≡ n + length gs
        → onto o (poly_product o (take n (divided o u gs n xs)) (g ∷ gs)) (padded o n (drop n (divided o u gs n xs))) ≡ xs
    whole zero xs hx e = refl
    whole (suc n) [] hx e = absurd (omega arith)
    whole (suc n) (x ∷ xs) hx e =
        let f = o.mul x u in
        let hf = laws.closed.mul x u hx.0 hu in
        let ys = less o f gs xs in
        let hy = less_ok f gs xs hf hgs hx.1 in
        let row = divided o u gs n ys in
        let hrow = divided_ok u gs n ys hu hgs hy in
        let p = poly_product o (take n row) (g ∷ gs) in
        let long : length (less o (o.mul x u) gs xs) ≡ n + length gs = length_less o (o.mul x u) gs xs ∙ omega arith in
        ap₂ (λ a l. a ∷ l) (first_back x u g hx.0 hu hg unit)
        (onto_assoc (map (o.mul f) gs) p (padded o n (drop n row)) (multiples_ok f gs hf hgs) (product_ok (take n row) (g ∷ gs) (All-take ok n row hrow) (hg, hgs)) (padded_ok n (drop n row) (All-drop ok n row hrow))
        ∙ ap (onto o (map (o.mul f) gs)) (whole n ys hy long)
        ∙ restored f gs xs hf hgs hx.1 (omega arith))

    split : (n : ℕ) (row : List E) → Each ok row → (length row ≡ suc n + length gs)
        → poly_sum o (poly_product o (take (suc n) row) (g ∷ gs)) (drop (suc n) row) ≡ onto o (poly_product o (take (suc n) row) (g ∷ gs)) (padded o (suc n) (drop (suc n) row))
    split n [] h e = absurd (omega arith)
    split n (q ∷ row) h e =
        let long : length (poly_product o (q ∷ take n row) (g ∷ gs)) ≡ suc (n + length gs) = length_product o q g (take n row) gs ∙ ap (λ m. suc (m + length gs)) (length-take n row ∙ omega arith) in
        let less_none : length (drop n row) - length (poly_product o (q ∷ take n row) (g ∷ gs)) ≡ 0 = omega (arith, length-drop n row, long) in
        let more : length (poly_product o (q ∷ take n row) (g ∷ gs)) - length (drop n row) ≡ suc n = omega (arith, length-drop n row, long) in
        ap₂ (λ a b. onto o (padded o a (poly_product o (q ∷ take n row) (g ∷ gs))) (padded o b (drop n row))) less_none more

    -- the remainder, whichever number of steps there is room for
    left : (n : ℕ) (xs : List E) → Each ok xs → n ≡ length xs - length gs → Remainder o (g ∷ gs) xs (drop n (divided o u gs n xs))
    left zero xs hx e =
        let all : length xs - 0 ≡ length xs = omega arith in
        let none : 0 - length xs ≡ 0 = omega arith in
        record { quotient = []; exact = sym (ap₂ (λ a b. onto o (padded o a []) (padded o b xs)) all none ∙ zeros_onto xs hx); shorter = omega arith }
    left (suc n) xs hx e =
        let long : length xs ≡ suc n + length gs = omega arith in
        let row = divided o u gs (suc n) xs in
        record {
          quotient = take (suc n) row;
          exact = sym (split n row (divided_ok u gs (suc n) xs hu hgs hx) (length_divided o u gs (suc n) xs ∙ long) ∙ whole (suc n) xs hx long);
          shorter = omega (arith, length-drop (suc n) (divided o u gs (suc n) xs), length_divided o u gs (suc n) xs);
        }

  pub division_left : (d xs : List E) → Each ok d → Each ok xs → Left o d xs (division o d xs).0 (division o d xs).1
  division_left [] xs hd hx = tt
  division_left (g ∷ gs) xs hd hx = by (o.same g o.zero) refl
    where
      made : Bool → Option ℕ × List E
      made t = cond t (None, xs) (Some (length xs - length gs), divided o (o.inv g) gs (length xs - length gs) xs)

      by : (t : Bool) → o.same g o.zero ≡ t → Left o (g ∷ gs) xs (made t).0 (made t).1
      by true e = tt
      by false e =
          let nonzero = λ (z : g ≡ o.zero). true≢false (sym (laws.compares.alike g o.zero z) ∙ e) in
          left (o.inv g) g gs (laws.inverses.inv_ok g hd.0) hd.0 hd.1 (laws.inverses.mul_inv g hd.0 nonzero) (length xs - length gs) xs hx refl

  pub left_result : (d xs : List E) (r : Option ℕ) (ys : List E) → r ≡ (division o d xs).0 → ys ≡ (division o d xs).1 → Each ok d → Each ok xs → Left o d xs r ys
  left_result d xs r ys er ey hd hx = subst₂ (λ r ys. Left o d xs r ys) (sym er) (sym ey) (division_left d xs hd hx)
