-- The octets that hexadecimal digits write.
use Rattle.std.specs.Prelude.{ℕ, ◌+◌, ◌-◌, ◌*◌, cond, List, [], ◌∷◌, length, Some, None, Option, ◌==◌, slice_index}
use Rattle.spelling.specs.Lists.{and_then, behind, spelled}
use Rattle.spelling.specs.Numbers.{in_range}

-- the digits 0 to 9 are the octets 48 to 57, and a to f are 97 to 102
abbrev pub hex_value : ℕ → Option ℕ
hex_value c = cond (in_range 48 57 c) (Some (c - 48)) (cond (in_range 97 102 c) (Some (c - 87)) None)

abbrev pub hex_octet : ℕ → ℕ → Option ℕ
hex_octet c d = and_then (hex_value c) (λ h. and_then (hex_value d) (λ l. Some (16 * h + l)))

-- one octet has two digits
abbrev pub octet_read : List ℕ → Option ℕ
octet_read t = cond (length t == 2) (hex_octet (slice_index t 0) (slice_index t 1)) None

-- octets stand one behind the other, with nothing between them
abbrev pub hex_octets : List ℕ → Option (List ℕ)
hex_octets [] = Some []
hex_octets (c ∷ []) = None
hex_octets (c ∷ (d ∷ cs)) = and_then (hex_octet c d) (λ o. behind (o ∷ []) (hex_octets cs))

abbrev pub octets_read : List ℕ → Option (List ℕ)
octets_read t = spelled hex_octets t
