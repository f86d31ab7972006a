-- What the word coder and the codeword test answer.
use Rattle.std.specs.Prelude.{ℕ, ◌-◌, Bool, ◌&&◌, List, length, take, drop, ◌==◌, nat_le}
use Rattle.elements.specs.Octets.{octets}
use Rattle.polynomials.specs.Differences.{differing}
use Rattle.coding.specs.Codewords.{parity}

-- whether a message has 1 to 224 octets
abbrev pub codable : List ℕ → Bool
codable message = nat_le 1 (length message) && nat_le (length message) 224

-- whether a row has a word's length, 17 to 240
abbrev pub word_long : List ℕ → Bool
word_long w = nat_le 17 (length w) && nat_le (length w) 240

-- whether the last 16 octets are the parity of those before
abbrev pub is_codeword : List ℕ → Bool
is_codeword w = word_long w && differing octets (parity (take (length w - 16) w)) (drop (length w - 16) w) == 0
