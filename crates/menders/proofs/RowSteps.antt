-- Steps of the loops over rows of octets.
use Rattle.std.proofs.Common.{◌≡◌, ℕ, ◌+◌, List, [], ◌∷◌, length, sym, refl, ap, ◌∙◌, arith, inl, inr, ◌⊎◌}
use Rattle.std.specs.List.{fold}
use Rattle.std.specs.Prelude.{reverse}
use Rattle.std.proofs.lemmas.List.Sums.{fold_push}
use lib.Bits.{bit_xor, xor_zero_r}
use Rattle.std.proofs.lemmas.List.{reverse-append}
use Rattle.elements.specs.Octets.{octets, product, power}
use Rattle.elements.specs.OctetLaws.{product_power}
use Rattle.coding.proofs.OctetField.{power_one}
use Rattle.coding.specs.Sums.{horner, eval_low}
use Rattle.coding.specs.Kernel.{dot}

pub power_first : 1 ≡ power 0
unfolding power
power_first = refl

pub power_next : (i : ℕ) → product (power i) 2 ≡ power (i + 1)
power_next i = ap (product (power i)) (sym power_one) ∙ product_power i 1

-- values of polynomials, as folds

pub horner_fold : (acc : ℕ) (xs : List ℕ) (x : ℕ) → fold (λ s a. bit_xor (product s x) a) acc xs ≡ horner octets acc xs x
horner_fold acc [] x = refl
horner_fold acc (a ∷ xs) x = horner_fold (bit_xor (product acc x) a) xs x

pub low_fold : (xs : List ℕ) (x : ℕ) → fold (λ s a. bit_xor a (product x s)) 0 (reverse xs) ≡ eval_low octets xs x
low_fold [] x = refl
low_fold (a ∷ xs) x =
    let f = λ (s b : ℕ). bit_xor b (product x s) in
    ap (fold f 0) (reverse-append (a ∷ []) xs) ∙ fold_push f 0 (reverse xs) a ∙ ap (λ s. bit_xor a (product x s)) (low_fold xs x)

-- at the end of either row nothing is left to add
pub dot_done : (sum : ℕ) (rs vs : List ℕ) → (length rs ≡ 0) ⊎ (length vs ≡ 0) → sum ≡ bit_xor sum (dot octets rs vs)
dot_done sum [] vs h = sym (xor_zero_r sum)
dot_done sum (r ∷ rs) [] h = sym (xor_zero_r sum)
dot_done sum (r ∷ rs) (a ∷ vs) (inl h) = absurd (omega arith)
dot_done sum (r ∷ rs) (a ∷ vs) (inr h) = absurd (omega arith)
