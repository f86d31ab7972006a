-- Which mender a text names.
use Rattle.std.specs.Prelude.{ℕ, ◌+◌, ◌-◌, Bool, cond, ◌&&◌, List, [], ◌∷◌, length, take, drop, Some, None, codes, Option, ◌==◌, nat_lt, slice_index}
use Rattle.std.specs.Str.{bytes_eq}
use Rattle.chosen.specs.declared.leaf.Leaf.{Leaf}
use Rattle.chosen.specs.declared.leaf.Leaf.TheVariants.{Still, Single, Full}
use Rattle.chosen.specs.declared.pile.Pile.{Pile}
use Rattle.chosen.specs.declared.pile.Pile.TheVariants.{One, Two}

abbrev pub leaf_named : List ℕ → Option Leaf
leaf_named t =
    cond (bytes_eq t (codes "still")) (Some Still)
    (cond (bytes_eq t (codes "single")) (Some Single)
    (cond (bytes_eq t (codes "full")) (Some Full) None))

-- how many parentheses are open behind an octet: 40 opens one, and 41 closes one
abbrev pub deeper : ℕ → ℕ → ℕ
deeper d c = cond (c == 40) (d + 1) (cond (c == 41) (d - 1) d)

-- whether an octet is a comma in no parentheses
abbrev pub parts_at : ℕ → ℕ → Bool
parts_at d c = c == 44 && d == 0

-- the place of the first comma in no parentheses, with d of them open and i octets passed
abbrev pub comma : ℕ → ℕ → List ℕ → Option ℕ
comma d i [] = None
comma d i (c ∷ cs) = cond (parts_at d c) (Some i) (comma (deeper d c) (i + 1) cs)

-- whether a text begins with `then(` and ends with `)`
abbrev pub is_then : List ℕ → Bool
is_then t = nat_lt 5 (length t) && (bytes_eq (take 5 t) (codes "then(") && slice_index t (length t - 1) == 41)

abbrev pub cut_at : List ℕ → Option ℕ → Option (List ℕ × List ℕ)
cut_at t None = None
cut_at t (Some i) = Some (take i t, drop (i + 1) t)

-- what stands between the parentheses
abbrev pub inner : List ℕ → List ℕ
inner t = take (length t - 6) (drop 5 t)

-- A and B of `then(A,B)`
abbrev pub sides : List ℕ → Option (List ℕ × List ℕ)
sides t = cond (is_then t) (cut_at (inner t) (comma 0 0 (inner t))) None

abbrev pub one : {M : Type 0} → Option M → Option (Pile M)
one None = None
one (Some m) = Some (One m)

abbrev pub two : {M : Type 0} → Option M → Option M → Option (Pile M)
two None b = None
two (Some a) None = None
two (Some a) (Some b) = Some (Two (record { first = a; second = b }))

abbrev pub by_sides : {M : Type 0} → (List ℕ → Option M) → List ℕ → Option (List ℕ × List ℕ) → Option (Pile M)
by_sides name t None = one (name t)
by_sides name t (Some p) = two (name p.0) (name p.1)

-- `then(A,B)` names two of a kind, and any other text one
abbrev pub pile_named : {M : Type 0} → (List ℕ → Option M) → List ℕ → Option (Pile M)
pile_named name t = by_sides name t (sides t)
