-- The decoder at octets: what it takes for a vector to put a word right, and that elimination finds such a vector.
use Rattle.std.proofs.Common.{◌≡◌, ℕ, zero, suc, ◌+◌, ◌<◌, ◌≤◌, List, [], ◌∷◌, ◌++◌, length, get_or, take, drop, sym, refl, ap, ◌∙◌, subst, ap₂, arith}
use Rattle.std.specs.List.{AllByRecursion as Each}
use Rattle.elements.specs.Octets.{octets, Octet, power}
use Rattle.polynomials.specs.Differences.{differing}
use Rattle.elements.specs.OctetLaws.{octets_laws, power_below}
use Rattle.coding.specs.Sums.{Distinct, Zero, Nonzero, horner, Vanishes, eval_low, slide}
use Rattle.coding.specs.Kernel.{dot, clear_rows, eliminate_rows, kernel_rows, unit_rows, Solves}
use Rattle.coding.specs.Decoder.{window, windows, locator_rows, correction, roots, patch, syndrome, correct_by, decode_with, decode, InCode}
use Rattle.coding.specs.Codewords.{Codeword}
use Rattle.coding.proofs.KernelRows.{eliminate_none, eliminate_at}
use Rattle.coding.proofs.Carrier.{low, lift, low_lift, length_lift, low_ok, part_path, low_horner}
use Rattle.coding.proofs.OctetField.{octets_field, Proper, proper_ops, proper, alpha, power_injective, alpha_is, alpha_nonzero, alpha_apart}
use Rattle.coding.proofs.ParityFacts.{codeword_vanishes}
use Rattle.coding.proofs.LeastDistance.{in_code, differing_lift}
use Rattle.coding.proofs.Candidates.{roots_zero, roots_all, roots_distinct}
use Rattle.coding.proofs.Decoder.{length_windows, windows_slide, corrected}
use Rattle.coding.proofs.CarrierDecoder.{low_slide, low_syndrome, low_correct_by, zeros_lift, rows_solve_on, rows_left_on, few_roots_on}

-- values and windows of octets are octets

pub horner_octet : (acc : ℕ) (w : List ℕ) (x : ℕ) → Octet acc → Each Octet w → Octet x → Octet (horner octets acc w x)
horner_octet acc w x ha hw hx =
    let w' = lift Octet w hw in
    subst Octet (low_horner octets_field (acc, ha) w' (x, hx) ∙ ap (λ u. horner octets acc u x) (low_lift Octet w hw)) (horner proper_ops (acc, ha) w' (x, hx)).1

pub syndrome_octet : (w : List ℕ) → Each Octet w → (k : ℕ) → Octet (syndrome octets power w k)
syndrome_octet w h k = horner_octet 0 w (power (suc k)) (omega arith) h (power_below (suc k))

pub window_octets : (s : ℕ → ℕ) → ((i : ℕ) → Octet (s i)) → (k n : ℕ) → Each Octet (window s k n)
window_octets s h k zero = tt
window_octets s h k (suc n) = (h k, window_octets s h (suc k) n)

pub windows_octets : (s : ℕ → ℕ) → ((i : ℕ) → Octet (s i)) → (n k m : ℕ) → Each (Each Octet) (windows s n k m)
windows_octets s h n k zero = tt
windows_octets s h n k (suc m) = (window_octets s h k n, windows_octets s h n (suc k) m)

-- the theorem in the field, at any way to name the powers of alpha
abbrev Corrects : (ℕ → Proper) → Type 0
Corrects at =
    (r t : ℕ) → t + t ≤ r → (w c v : List Proper) → length w ≡ length c → length w ≤ 255 → InCode proper_ops at r c → differing proper_ops w c ≤ t
    → length v ≡ suc t → ¬ (Each (Zero proper_ops) v) → Vanishes proper_ops (slide proper_ops v (syndrome proper_ops at w)) 0 t → correct_by proper_ops at v w ≡ c

corrects_alpha : Corrects alpha
corrects_alpha =
    subst Corrects alpha_is
    (λ r t enough w c v len fits code near long some solves. corrected proper (alpha 1) 255 r alpha_nonzero alpha_apart w c len fits code t enough near v long some solves)

-- A word w of octets, and a word c of a code with r zeros from which it differs in at most t places.
-- Any vector v of t + 1 octets, not all zero, that solves the t equations of the syndromes puts w right.
pub corrects_in : (r t : ℕ) → t + t ≤ r → (w c v : List ℕ) → Each Octet w → Each Octet c → Each Octet v → length w ≡ length c → length w ≤ 255
    → InCode octets power r c → differing octets w c ≤ t
    → length v ≡ suc t → ¬ (Each (Zero octets) v) → ((k : ℕ) → k < t → slide octets v (syndrome octets power w) k ≡ 0) → correct_by octets power v w ≡ c
corrects_in r t enough w c v hw hc hv len fits code near long some solves =
    let w' = lift Octet w hw in
    let c' = lift Octet c hc in
    let v' = lift Octet v hv in
    let w_low = low_lift Octet w hw in
    let v_low = low_lift Octet v hv in
    let solves' : Vanishes proper_ops (slide proper_ops v' (syndrome proper_ops alpha w')) 0 t =
    λ k from to. part_path octets_field _ _
    (low_slide octets_field v' (syndrome proper_ops alpha w') k
    ∙ ap₂ (λ u s. slide octets u s k) v_low (low_syndrome octets_field alpha w' ∙ ap (syndrome octets power) w_low) ∙ solves k (omega arith)) in
    let equal = corrects_alpha r t enough w' c' v' (length_lift Octet w hw ∙ len ∙ sym (length_lift Octet c hc)) (rw (length_lift Octet w hw) fits)
    (in_code r c hc code) (rw (differing_lift w c hw hc) near) (length_lift Octet v hv ∙ long) (λ z. some (zeros_lift octets_field v hv z)) solves' in
    sym (low_correct_by octets_field alpha v' w' ∙ ap₂ (correct_by octets power) v_low w_low) ∙ ap low equal ∙ low_lift Octet c hc

pub corrects : (t : ℕ) → t ≤ 8 → (w c v : List ℕ) → Each Octet w → Each Octet v → Codeword c → length w ≡ length c → differing octets w c ≤ t
    → length v ≡ suc t → ¬ (Each (Zero octets) v) → ((k : ℕ) → k < t → slide octets v (syndrome octets power w) k ≡ 0) → correct_by octets power v w ≡ c
corrects t small w c v hw hv code len near =
    corrects_in 16 t (omega arith) w c v hw code.octets_all hv len (omega (arith, code.short)) (codeword_vanishes c code) near

-- Elimination finds such vectors.

pub octets_rows_solve : (n : ℕ) (rs : List (List ℕ)) → Each (Each Octet) rs → Each (λ v. Solves octets n rs v × Each Octet v) (kernel_rows octets rs (unit_rows octets n 0 n))
octets_rows_solve = rows_solve_on octets_field

pub octets_rows_left : (n : ℕ) (rs : List (List ℕ)) → Each (Each Octet) rs → length rs < n → 0 < length (kernel_rows octets rs (unit_rows octets n 0 n))
octets_rows_left = rows_left_on octets_field

pub octets_eliminate_none : (r : List ℕ) (vs : List (List ℕ)) → Each (λ v. dot octets r v ≡ 0) vs → eliminate_rows octets r vs ≡ vs
octets_eliminate_none = eliminate_none octets_laws.compares

pub octets_eliminate_at : (r : List ℕ) (p : ℕ) (vs : List (List ℕ)) → p < length vs → Each (λ v. dot octets r v ≡ 0) (take p vs) → Nonzero octets (dot octets r (get_or vs p []))
    → eliminate_rows octets r vs ≡ take p vs ++ clear_rows octets r (get_or vs p []) (drop (suc p) vs)
octets_eliminate_at = eliminate_at octets_laws.compares

-- the decoder finds the codeword
pub decodes : (t : ℕ) → t ≤ 8 → (w c : List ℕ) → Each Octet w → Codeword c → length w ≡ length c → differing octets w c ≤ t → decode octets power t w ≡ c
decodes t small w c hw code len near =
    go (locator_rows octets s t) (octets_rows_left (suc t) rs hrs (omega (arith, length_windows s (suc t) 0 t))) (octets_rows_solve (suc t) rs hrs)
  where
    s : ℕ → ℕ
    s = syndrome octets power w

    rs : List (List ℕ)
    rs = windows s (suc t) 0 t

    hrs : Each (Each Octet) rs
    hrs = windows_octets s (syndrome_octet w hw) (suc t) 0 t

    go : (vs : List (List ℕ)) → 0 < length vs → Each (λ v. Solves octets (suc t) rs v × Each Octet v) vs → decode_with octets power vs w ≡ c
    go [] some good = absurd (omega arith)
    go (v ∷ vs) some good =
        let g = good.0.0 in
        corrects t small w c v hw good.0.1 code len near g.long g.some
        (λ k below. windows_slide octets s (suc t) t 0 v (omega (arith, g.long)) g.solves k (omega arith) (omega arith))

-- a vector of octets, not all zero, has fewer roots than coefficients
pub octets_few_roots : (rs vs : List ℕ) → Each Octet rs → Each Octet vs → Distinct rs → Each (λ r. eval_low octets vs r ≡ 0) rs → ¬ (Each (Zero octets) vs) → length rs < length vs
octets_few_roots = few_roots_on octets_field

pub roots_few : (t : ℕ) (v : List ℕ) (n : ℕ) → length v ≡ suc t → Each Octet v → ¬ (Each (Zero octets) v) → n ≤ 255 → length (roots octets power v n) ≤ t
roots_few t v n long hv some fits =
    let C = octets_laws.compares in
    omega (
      arith,
      octets_few_roots (roots octets power v n) v (roots_all C power Octet v n (λ k _. power_below k)) hv
          (roots_distinct C power v n (λ i j before inside e. let same_place = power_injective i j (omega arith) (omega arith) e in omega arith))
          (roots_zero C power v n) some,
    )

-- a word that is put right has as many octets as before

length_patch : (f : ℕ → ℕ) (w : List ℕ) → length (patch octets power f w) ≡ length w
length_patch f [] = refl
length_patch f (a ∷ w) = ap suc (length_patch f w)

pub length_correct : (v w : List ℕ) → length (correct_by octets power v w) ≡ length w
length_correct v w = length_patch (correction octets (syndrome octets power w) v (roots octets power v (length w))) w

pub correct_octets : (v w : List ℕ) → Each Octet v → Each Octet w → Each Octet (correct_by octets power v w)
correct_octets v w hv hw =
    let v' = lift Octet v hv in
    let w' = lift Octet w hw in
    subst (Each Octet) (low_correct_by octets_field alpha v' w' ∙ ap₂ (correct_by octets power) (low_lift Octet v hv) (low_lift Octet w hw))
    (low_ok (correct_by proper_ops alpha v' w'))
