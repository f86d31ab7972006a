-- Lists that are read part by part.
use Rattle.std.specs.Prelude.{ℕ, cond, List, [], ◌∷◌, ◌++◌, length, Some, None, codes, Option, ◌==◌}
use Rattle.std.specs.Str.{bytes_eq}

abbrev pub and_then : {X Y : Type 0} → Option X → (X → Option Y) → Option Y
and_then None f = None
and_then (Some x) f = f x

-- a list with others in front of it, if there is one
abbrev pub behind : {X : Type 0} → List X → Option (List X) → Option (List X)
behind xs None = None
behind xs (Some ys) = Some (xs ++ ys)

-- every part is read, or none
abbrev pub each : {X Y : Type 0} → (X → Option Y) → List X → Option (List Y)
each f [] = Some []
each f (x ∷ xs) = and_then (f x) (λ y. behind (y ∷ []) (each f xs))

-- a dash writes the empty list, and an empty text writes none
abbrev pub spelled : {X : Type 0} → (List ℕ → Option (List X)) → List ℕ → Option (List X)
spelled read t = cond (bytes_eq t (codes "-")) (Some []) (cond (length t == 0) None (read t))
