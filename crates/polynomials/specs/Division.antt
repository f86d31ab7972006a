-- Long division of polynomials, step by step.
use Rattle.std.specs.Prelude.{ℕ, zero, suc, ◌-◌, cond, List, [], ◌∷◌, length, drop, Some, None, Option}
use Rattle.elements.specs.Laws.{Operations}
use Rattle.polynomials.specs.Polynomials.{Remainder}

module _ {E : Type 0} (o : Operations E) where
  -- the row xs less f times the row gs, place by place from the first on
  abbrev pub less : E → List E → List E → List E
  less f [] xs = xs
  less f (g ∷ gs) [] = []
  less f (g ∷ gs) (x ∷ xs) = o.add x (o.neg (o.mul f g)) ∷ less f gs xs

  -- n steps of the division of xs by a divisor whose highest coefficient has the inverse u, and whose others are gs:
  -- the n coefficients of the quotient, and then what is left of xs
  abbrev pub divided : E → List E → ℕ → List E → List E
  divided u gs zero xs = xs
  divided u gs (suc n) [] = []
  divided u gs (suc n) (x ∷ xs) = o.mul x u ∷ divided u gs n (less (o.mul x u) gs xs)

  -- where the remainder begins, and the row of quotient and remainder.
  -- None, and the row as it was, if the divisor is empty or its highest coefficient is zero.
  abbrev pub division : List E → List E → Option ℕ × List E
  division [] xs = (None, xs)
  division (g ∷ gs) xs =
      cond (o.same g o.zero) (None, xs) (Some (length xs - length gs), divided (o.inv g) gs (length xs - length gs) xs)

  -- what a division that answered r left in the row ys: from r on stands the remainder of xs by d
  abbrev pub Left : List E → List E → Option ℕ → List E → Type 0
  Left d xs None ys = Unit {0}
  Left d xs (Some n) ys = Remainder o d xs (drop n ys)
