-- Vectors that solve equations, by elimination over rows that start as the unit vectors.
use Rattle.std.specs.Prelude.{◌≡◌, ℕ, zero, suc, cond, List, [], ◌∷◌, length, replicate}
use Rattle.std.specs.List.{AllByRecursion as Each}
use Rattle.elements.specs.Laws.{Operations}
use Rattle.coding.specs.Sums.{Zero}

module _ {F : Type 0} (K : Operations F) where
  open K use {zero as 𝟘, one as 𝟙, add as ◌⊕◌, mul as ◌⊗◌, inv, same}

  infixl 65 ◌⊕◌
  infixl 70 ◌⊗◌
  abbrev pub dot : List F → List F → F
  dot [] v = 𝟘
  dot (r ∷ rs) [] = 𝟘
  dot (r ∷ rs) (a ∷ v) = a ⊗ r ⊕ dot rs v

  abbrev pub scale : F → List F → List F
  scale c [] = []
  scale c (b ∷ v) = c ⊗ b ∷ scale c v

  -- u + c · v; a missing coordinate counts as zero
  abbrev pub add_mul : F → List F → List F → List F
  add_mul c [] v = scale c v
  add_mul c (a ∷ u) [] = a ∷ u
  add_mul c (a ∷ u) (b ∷ v) = (a ⊕ c ⊗ b) ∷ add_mul c u v

  -- each row less as much of p as makes it solve the equation r
  abbrev pub clear_rows : List F → List F → List (List F) → List (List F)
  clear_rows r p [] = []
  clear_rows r p (v ∷ vs) = add_mul (dot r v ⊗ inv (dot r p)) v p ∷ clear_rows r p vs

  -- the first row that does not solve r goes, and is used to clear those after it
  abbrev pub eliminate_rows : List F → List (List F) → List (List F)
  eliminate_rows r [] = []
  eliminate_rows r (v ∷ vs) = cond (same (dot r v) 𝟘) (v ∷ eliminate_rows r vs) (clear_rows r v vs)

  abbrev pub kernel_rows : List (List F) → List (List F) → List (List F)
  kernel_rows [] vs = vs
  kernel_rows (r ∷ rs) vs = kernel_rows rs (eliminate_rows r vs)

  -- the unit vector i of n coordinates
  abbrev pub unit : ℕ → ℕ → List F
  unit zero i = []
  unit (suc n) zero = 𝟙 ∷ replicate n 𝟘
  unit (suc n) (suc i) = 𝟘 ∷ unit n i

  -- k of them, from i on
  abbrev pub unit_rows : ℕ → ℕ → ℕ → List (List F)
  unit_rows n i zero = []
  unit_rows n i (suc k) = unit n i ∷ unit_rows n (suc i) k

  -- a vector of n coordinates, not all zero, that solves each of the equations rs
  pub record Solves (n : ℕ) (rs : List (List F)) (v : List F) : Type 0 where
    pub long : length v ≡ n
    pub solves : Each (λ r. dot r v ≡ 𝟘) rs
    pub some : ¬ (Each (Zero K) v)
