-- Buffers that are cleared in front.
use Rattle.std.proofs.Common.{◌≡◌, ℕ, ◌-◌, ◌≤◌, List, ◌++◌, drop, replicate, ap, ◌∙◌, arith}
use Rattle.std.proofs.lemmas.List.{length-replicate, drop_at, drop-append-le, drop-replicate}

-- what lies behind the zeros
pub behind_zeros : (n : ℕ) (xs : List ℕ) → drop n (replicate n 0 ++ xs) ≡ xs
behind_zeros n xs = drop_at (replicate n 0) xs n (length-replicate n 0)

-- the zeros that a front leaves
pub zeros_left : (n k : ℕ) (xs : List ℕ) → k ≤ n → drop k (replicate n 0 ++ xs) ≡ replicate (n - k) 0 ++ xs
zeros_left n k xs h = drop-append-le k (replicate n 0) xs (omega (arith, length-replicate {A = ℕ} n 0)) ∙ ap (λ l. l ++ xs) (drop-replicate k n 0)
