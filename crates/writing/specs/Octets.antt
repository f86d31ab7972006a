-- Octets as hexadecimal digits.
use Rattle.std.specs.Prelude.{ℕ, ◌+◌, ◌/◌, ◌%◌, cond, List, [], ◌∷◌, ◌++◌, length, codes, ◌==◌, nat_lt}

-- how octets are written
abbrev pub hex_char : ℕ → ℕ
hex_char v = cond (nat_lt v 10) (48 + v) (87 + v)

abbrev pub octet_written : ℕ → List ℕ
octet_written o = hex_char (o / 16) ∷ (hex_char (o % 16) ∷ [])

abbrev pub octets_hex : List ℕ → List ℕ
octets_hex [] = []
octets_hex (o ∷ os) = octet_written o ++ octets_hex os

abbrev pub octets_written : List ℕ → List ℕ
octets_written os = cond (length os == 0) (codes "-") (octets_hex os)
