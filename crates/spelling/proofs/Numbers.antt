-- Decimal digits, read as a fold.
use Rattle.std.proofs.Common.{◌≡◌, ℕ, ◌≤◌, List, [], ◌∷◌, Some, None, Option, IfSome, refl, arith}
use Rattle.std.specs.List.{fold}
use Rattle.std.proofs.lemmas.Bool.Decides.{nat_tests}
use Rattle.spelling.specs.Lists.{and_then}
use Rattle.spelling.specs.Numbers.{longer, digits_from}

pub folded : (most : ℕ) (o : Option ℕ) (cs : List ℕ) → fold (λ p c. and_then p (λ n. longer most n c)) o cs ≡ and_then o (λ n. digits_from most n cs)
folded most None [] = refl
folded most (Some n) [] = refl
folded most None (c ∷ cs) = folded most None cs
folded most (Some n) (c ∷ cs) = folded most (longer most n c) cs

small : (most n c : ℕ) → IfSome (longer most n c) (λ m. m ≤ most)
small most n c = grind (arith, nat_tests)

pub bounded : (most : ℕ) (o : Option ℕ) (cs : List ℕ) → IfSome o (λ n. n ≤ most) → IfSome (and_then o (λ n. digits_from most n cs)) (λ m. m ≤ most)
bounded most None cs h = tt
bounded most (Some n) [] h = h
bounded most (Some n) (c ∷ cs) h = bounded most (longer most n c) cs (small most n c)
