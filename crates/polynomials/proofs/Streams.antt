-- A check taken in element by element is the remainder of the whole message.
use Rattle.std.proofs.Common.{◌≡◌, ℕ, suc, ◌+◌, ◌-◌, ◌<◌, ◌≤◌, Bool, true, false, cond, List, [], ◌∷◌, ◌++◌, length, get_or, drop, set, replicate, Some, None, Option, sym, refl, ap, ◌∙◌, subst, ap₂, le_of_suc-le-suc, not-suc-le-zero, arith}
use Rattle.std.specs.List.{AllByRecursion as Each}
use Rattle.std.proofs.lemmas.List.{set_at, length_push, length-append, length-replicate, length-drop}
use Rattle.std.proofs.ByRecursion.{All-append, All-push, All-drop}
use Rattle.elements.specs.Laws.{Operations, Laws}
use Rattle.polynomials.specs.Polynomials.{onto}
use Rattle.polynomials.specs.Division.{less, divided, division, Left}
use Rattle.polynomials.proofs.Remainders.{length_divided, length_onto, zero_plus, zeros_ok, onto_ok, divided_ok, division_left}
use Rattle.polynomials.specs.Checks.{dividend, check, stepped, laid_out, Checks, Generates}

-- what is laid out, from writes to a row that begins with the register and is one place longer
pub laid_is : {E : Type 0} (o : Operations E) (reg tail : List E) (x a : E) → 0 < length reg → length tail ≡ 1 → a ≡ get_or (reg ++ tail) 0 a
    → set (set (reg ++ tail) 0 (o.add a x)) (length reg) o.zero ≡ laid_out o reg x
laid_is o [] tail x a some one e = absurd (not-suc-le-zero some)
laid_is o (r ∷ rs) [] x a some one e = absurd (omega arith)
laid_is o (r ∷ rs) (t ∷ []) x a some one e = ap₂ (λ p l. p ∷ l) (ap (λ b. o.add b x) e) (set_at rs t [] o.zero (length rs) refl)
laid_is o (r ∷ rs) (t ∷ u ∷ ts) x a some one e = absurd (omega arith)

module _ {E : Type 0} {ok : E → Type 0} {o : Operations E} (laws : Laws ok o) where
  -- a zero more at the end of what is added changes nothing
  onto_push : (rs ys : List E) → Each ok ys → length rs < length ys → onto o rs ys ≡ onto o (rs ++ (o.zero ∷ [])) ys
  onto_push [] [] hy h = absurd (not-suc-le-zero h)
  onto_push [] (y ∷ ys) hy h = ap (λ a. a ∷ ys) (sym (zero_plus laws y hy.0))
  onto_push (r ∷ rs) [] hy h = absurd (not-suc-le-zero h)
  onto_push (r ∷ rs) (y ∷ ys) hy h = ap (λ l. o.add r y ∷ l) (onto_push rs ys hy.1 (le_of_suc-le-suc h))

  swap : (a m y : E) → ok a → ok m → ok y → o.add (o.add a y) m ≡ o.add (o.add a m) y
  swap a m y ha hm hy =
      let r = laws.ring in
      r.add_assoc a y m ha hy hm ∙ ap (o.add a) (r.add_comm y m hy hm) ∙ sym (r.add_assoc a m y ha hm hy)

  -- a step takes from what is added, as much as from the sum
  less_onto : (f : E) (gs zs ys : List E) → ok f → Each ok gs → Each ok zs → Each ok ys → length gs ≤ length zs → length zs ≤ length ys
      → less o f gs (onto o zs ys) ≡ onto o (less o f gs zs) ys
  less_onto f [] zs ys hf hg ha hy h k = refl
  less_onto f (g ∷ gs) [] ys hf hg ha hy h k = absurd (not-suc-le-zero h)
  less_onto f (g ∷ gs) (a ∷ zs) [] hf hg ha hy h k = absurd (not-suc-le-zero k)
  less_onto f (g ∷ gs) (a ∷ zs) (y ∷ ys) hf hg ha hy h k =
      ap₂ (λ p l. p ∷ l) (swap a (o.neg (o.mul f g)) y ha.0 (laws.closed.neg (o.mul f g) (laws.closed.mul f g hf hg.0)) hy.0)
      (less_onto f gs zs ys hf hg.1 ha.1 hy.1 (le_of_suc-le-suc h) (le_of_suc-le-suc k))

  abbrev zeros : ℕ → List E
  zeros n = replicate n o.zero

  -- what a division leaves in the row, by whether the divisor's highest coefficient is zero
  abbrev left_by : Bool → E → List E → ℕ → List E → List E
  left_by t u gs n xs = cond t xs (divided o u gs n xs)

  division_row : (g : E) (gs xs : List E) (n : ℕ) → length xs - length gs ≡ n → (division o (g ∷ gs) xs).1 ≡ left_by (o.same g o.zero) (o.inv g) gs n xs
  division_row g gs xs n e =
      elim (o.same g o.zero) as (λ t. (cond {A = Option ℕ × List E} t (None, xs) (Some (length xs - length gs), divided o (o.inv g) gs (length xs - length gs) xs)).1 ≡ left_by t (o.inv g) gs n xs) [
        | true ↦ refl
        | false ↦ ap (λ m. divided o (o.inv g) gs m xs) e
      ]

  -- the first of the steps, and those that are left
  step_by : (t : Bool) (u a : E) (gs rs ys : List E) (n : ℕ) → ok u → ok a → Each ok gs → Each ok rs → Each ok ys → length gs ≡ suc (length rs) → length gs ≤ length ys
      → drop (suc n) (left_by t u gs (suc n) (a ∷ onto o rs ys)) ≡ drop n (left_by t u gs n (onto o (drop 1 (left_by t u gs 1 (a ∷ (rs ++ (o.zero ∷ []))))) ys))
  step_by true u a gs rs ys n hu ha hg hr hy long room = ap (drop n) (onto_push rs ys hy (omega arith))
  step_by false u a gs rs ys n hu ha hg hr hy long room =
      ap (λ l. drop n (divided o u gs n l))
      (ap (less o (o.mul a u) gs) (onto_push rs ys hy (omega arith))
      ∙ less_onto (o.mul a u) gs (rs ++ (o.zero ∷ [])) ys (laws.closed.mul a u ha hu) hg (All-push ok rs o.zero hr laws.closed.zero) hy
      (omega (arith, length_push rs o.zero)) (omega (arith, length_push rs o.zero)))

  stepped_left : (g : E) (gs rs : List E) (r x : E) → length gs ≡ suc (length rs)
      → stepped o (g ∷ gs) (r ∷ rs) x ≡ drop 1 (left_by (o.same g o.zero) (o.inv g) gs 1 (o.add r x ∷ (rs ++ (o.zero ∷ []))))
  stepped_left g gs rs r x long = ap (drop 1) (division_row g gs (o.add r x ∷ (rs ++ (o.zero ∷ []))) 1 (omega (arith, length_push rs o.zero)))

  length_left : (t : Bool) (u : E) (gs : List E) (n : ℕ) (xs : List E) → length (left_by t u gs n xs) ≡ length xs
  length_left true u gs n xs = refl
  length_left false u gs n xs = length_divided o u gs n xs

  pub length_stepped : (g : E) (gs rs : List E) (r x : E) → length gs ≡ suc (length rs) → length (stepped o (g ∷ gs) (r ∷ rs) x) ≡ suc (length rs)
  length_stepped g gs rs r x long =
      ap length (stepped_left g gs rs r x long)
      ∙ length-drop 1 (left_by (o.same g o.zero) (o.inv g) gs 1 (o.add r x ∷ (rs ++ (o.zero ∷ []))))
      ∙ omega (arith, length_left (o.same g o.zero) (o.inv g) gs 1 (o.add r x ∷ (rs ++ (o.zero ∷ []))), length_push rs o.zero)

  check_is : (g : E) (gs reg msg : List E) → length reg ≡ length gs
      → check o (g ∷ gs) reg msg ≡ drop (length msg) (left_by (o.same g o.zero) (o.inv g) gs (length msg) (onto o reg (msg ++ zeros (length gs))))
  check_is g gs reg msg long =
      let same : length (g ∷ gs) - 1 ≡ length gs = omega arith in
      let fits : length reg ≤ length (msg ++ zeros (length gs)) = omega (arith, length-append msg (zeros (length gs)), length-replicate (length gs) o.zero) in
      ap (λ d. drop (length msg) (division o (g ∷ gs) (dividend o d reg msg)).1) same
      ∙ ap (drop (length msg)) (division_row g gs (onto o reg (msg ++ zeros (length gs))) (length msg)
      (omega (arith, length_onto o reg (msg ++ zeros (length gs)) fits, length-append msg (zeros (length gs)), length-replicate (length gs) o.zero)))

  -- one element more of the message
  pub check_step : (g : E) (gs reg msg : List E) (x : E) → ok g → Each ok gs → Each ok reg → ok x → Each ok msg → 0 < length reg → length reg ≡ length gs
      → check o (g ∷ gs) (stepped o (g ∷ gs) reg x) msg ≡ check o (g ∷ gs) reg (x ∷ msg)
  check_step g gs [] msg x hg hgs hr hx hm some long = absurd (not-suc-le-zero some)
  check_step g gs (r ∷ rs) msg x hg hgs hr hx hm some long =
      let t = o.same g o.zero in
      let u = o.inv g in
      let ys = msg ++ zeros (length gs) in
      check_is g gs (stepped o (g ∷ gs) (r ∷ rs) x) msg (length_stepped g gs rs r x (sym long) ∙ long)
      ∙ ap (λ l. drop (length msg) (left_by t u gs (length msg) (onto o l ys))) (stepped_left g gs rs r x (sym long))
      ∙ sym (step_by t u (o.add r x) gs rs ys (length msg) (laws.inverses.inv_ok g hg) (laws.closed.add r x hr.0 hx) hgs hr.1
      (All-append ok msg (zeros (length gs)) hm (zeros_ok laws (length gs))) (sym long) (omega (arith, length-append msg (zeros (length gs)), length-replicate (length gs) o.zero)))
      ∙ sym (check_is g gs (r ∷ rs) (x ∷ msg) long)

  left_ok : (t : Bool) (u : E) (gs : List E) (n : ℕ) (xs : List E) → ok u → Each ok gs → Each ok xs → Each ok (left_by t u gs n xs)
  left_ok true u gs n xs hu hg hx = hx
  left_ok false u gs n xs hu hg hx = divided_ok laws u gs n xs hu hg hx

  pub stepped_ok : (g : E) (gs reg : List E) (x : E) → ok g → Each ok gs → Each ok reg → ok x → length reg ≡ length gs → Each ok (stepped o (g ∷ gs) reg x)
  stepped_ok g gs [] x hg hgs hr hx long = All-drop ok 1 _ (subst (Each ok) (sym (division_row g gs [] _ refl)) (left_ok (o.same g o.zero) (o.inv g) gs _ [] (laws.inverses.inv_ok g hg) hgs tt))
  stepped_ok g gs (r ∷ rs) x hg hgs hr hx long =
      subst (Each ok) (sym (stepped_left g gs rs r x (sym long)))
      (All-drop ok 1 _ (left_ok (o.same g o.zero) (o.inv g) gs 1 _ (laws.inverses.inv_ok g hg) hgs
      (laws.closed.add r x hr.0 hx, All-push ok rs o.zero hr.1 laws.closed.zero)))

  -- the check of no elements is what the register holds
  pub check_none : (g : E) (gs reg : List E) → Each ok reg → length reg ≡ length gs → check o (g ∷ gs) reg [] ≡ reg
  check_none g gs reg hr long =
      check_is g gs reg [] long ∙ none (o.same g o.zero) ∙ ap (λ n. onto o reg (zeros n)) (sym long) ∙ onto_zeros reg hr
    where
      none : (t : Bool) → left_by t (o.inv g) gs 0 (onto o reg (zeros (length gs))) ≡ onto o reg (zeros (length gs))
      none true = refl
      none false = refl

      onto_zeros : (xs : List E) → Each ok xs → onto o xs (zeros (length xs)) ≡ xs
      onto_zeros [] h = refl
      onto_zeros (x ∷ xs) h = ap₂ (λ a l. a ∷ l) (laws.ring.add-zero x h.0) (onto_zeros xs h.1)

  -- the same of a generator that is not taken apart
  pub check_more : (gen reg msg : List E) (x : E) → 0 < length reg → length gen ≡ length reg + 1 → Each ok gen → Each ok reg → ok x → Each ok msg
      → (check o gen (stepped o gen reg x) msg ≡ check o gen reg (x ∷ msg)) × Each ok (stepped o gen reg x)
  check_more [] reg msg x some long hg hr hx hm = absurd (omega arith)
  check_more (g ∷ gs) reg msg x some long hg hr hx hm =
      let same : length reg ≡ length gs = omega arith in
      (check_step g gs reg msg x hg.0 hg.1 hr hx hm some same, stepped_ok g gs reg x hg.0 hg.1 hr hx same)

  pub check_done : (gen reg : List E) → length gen ≡ length reg + 1 → Each ok reg → check o gen reg [] ≡ reg
  check_done [] reg long hr = absurd (omega arith)
  check_done (g ∷ gs) reg long hr = check_none g gs reg hr (omega arith)

  -- a check keeps the relation, and has as many elements as the preset
  check_left : (g : E) (gs preset msg : List E) → length preset ≡ length gs → ok g → Each ok gs → Each ok preset → Each ok msg → (g ≡ o.zero → ⊥)
      → Checks o (g ∷ gs) preset msg (check o (g ∷ gs) preset msg)
  check_left g gs preset msg long hg hgs hp hm nonzero =
      let xs = dividend o (length (g ∷ gs) - 1) preset msg in
      let d = g ∷ gs in
      let same : length (g ∷ gs) - 1 ≡ length gs = omega arith in
      let hx = onto_ok laws preset (msg ++ zeros (length d - 1)) hp (All-append ok msg (zeros (length d - 1)) hm (zeros_ok laws (length d - 1))) in
      let fits : length preset ≤ length (msg ++ zeros (length (g ∷ gs) - 1)) = omega (arith, length-append msg (zeros (length (g ∷ gs) - 1)), length-replicate (length (g ∷ gs) - 1) o.zero) in
      let steps : length (dividend o (length (g ∷ gs) - 1) preset msg) - length gs ≡ length msg =
      omega (arith, length_onto o preset (msg ++ zeros (length (g ∷ gs) - 1)) fits, length-append msg (zeros (length (g ∷ gs) - 1)), length-replicate (length (g ∷ gs) - 1) o.zero) in
      let begins : (division o d xs).0 ≡ Some (length msg) =
      ap (λ t. (cond {A = Option ℕ × List E} t (None, xs) (Some (length xs - length gs), divided o (o.inv g) gs (length xs - length gs) xs)).0) (not_same g nonzero) ∙ ap Some steps in
      subst (λ (r : Option ℕ). Left o d xs r (division o d xs).1) begins (division_left laws d xs (hg, hgs) hx)
    where
      not_same : (a : E) → (a ≡ o.zero → ⊥) → o.same a o.zero ≡ false
      not_same a n = (elim (o.same a o.zero) as (λ t. o.same a o.zero ≡ t → t ≡ false) [ true ↦ λ e. absurd (n (laws.compares.equal a o.zero e)) | false ↦ λ e. refl ]) refl

  pub check_remains : (d : ℕ) (gen preset msg : List E) → Generates ok o d gen preset → Each ok msg → Checks o gen preset msg (check o gen preset msg)
  check_remains d [] preset msg from hm = absurd (omega (arith, from.long))
  check_remains d (g ∷ gs) preset msg from hm =
      check_left g gs preset msg (omega (arith, from.long, from.preset_long)) from.proper.0 from.proper.1 from.preset_proper hm
      (λ z. laws.ring.one_apart (sym from.leads ∙ z))
