-- Polynomials as rows of coefficients, the highest first.
use Rattle.std.specs.Prelude.{◌≡◌, ℕ, ◌-◌, ◌<◌, List, [], ◌∷◌, ◌++◌, map, length, replicate}
use Rattle.elements.specs.Laws.{Operations}

module _ {E : Type 0} (o : Operations E) where
  -- the row xs added to the first places of the row ys; what is left of the longer stays
  abbrev pub onto : List E → List E → List E
  onto [] ys = ys
  onto (x ∷ xs) [] = x ∷ xs
  onto (x ∷ xs) (y ∷ ys) = o.add x y ∷ onto xs ys

  -- n zeros, and then the row
  abbrev pub padded : ℕ → List E → List E
  padded n xs = replicate n o.zero ++ xs

  -- the sum of two polynomials: the shorter is padded, so that the lowest coefficients stand together
  abbrev pub poly_sum : List E → List E → List E
  poly_sum xs ys = onto (padded (length ys - length xs) xs) (padded (length xs - length ys) ys)

  -- the product: the first factor's highest coefficient times the second stands at the front, and the product of what is left follows one place on
  abbrev pub poly_product : List E → List E → List E
  poly_product [] ys = []
  poly_product (x ∷ xs) ys = onto (map (o.mul x) ys) (o.zero ∷ poly_product xs ys)

  -- r is the remainder of the division of xs by d: xs is some quotient times d plus r, and r is shorter than d
  pub record Remainder (d xs r : List E) : Type 0 where
    pub quotient : List E
    pub exact : xs ≡ poly_sum (poly_product quotient d) r
    pub shorter : length r < length d
