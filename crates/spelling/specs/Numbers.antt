-- The number that decimal digits write.
use Rattle.std.specs.Prelude.{ℕ, ◌+◌, ◌-◌, ◌*◌, Bool, cond, ◌&&◌, List, [], ◌∷◌, length, Some, None, Option, nat_le, nat_lt}
use Rattle.spelling.specs.Lists.{and_then}

-- an octet between two others
abbrev pub in_range : ℕ → ℕ → ℕ → Bool
in_range low high c = nat_le low c && nat_le c high

-- n with one digit more, if that is not above the most: the digits 0 to 9 are the octets 48 to 57
abbrev pub longer : ℕ → ℕ → ℕ → Option ℕ
longer most n c = cond (in_range 48 57 c) (cond (nat_le (10 * n + (c - 48)) most) (Some (10 * n + (c - 48))) None) None

-- the number that digits write behind a number n
abbrev pub digits_from : ℕ → ℕ → List ℕ → Option ℕ
digits_from most n [] = Some n
digits_from most n (c ∷ cs) = and_then (longer most n c) (λ m. digits_from most m cs)

-- a number has one to nine digits, and is not above the most
abbrev pub number_read : ℕ → List ℕ → Option ℕ
number_read most t = cond (nat_lt 0 (length t) && nat_le (length t) 9) (digits_from most 0 t) None
