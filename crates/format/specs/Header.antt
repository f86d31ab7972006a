-- The PHY header, the header check sequence and the header word.
use Rattle.std.specs.Prelude.{ℕ, zero, suc, ◌+◌, ◌*◌, ◌/◌, ◌%◌, ◌^◌, Bool, true, false, not, List, [], ◌∷◌, ◌++◌, map, replicate, ◌==◌}
use Rattle.elements.specs.Bits.{bits as bit_ops}
use Rattle.polynomials.specs.Checks.{check}
use Rattle.coding.specs.Codewords.{parity}
use Rattle.format.specs.declared.phy.Phy.{Phy}
use Rattle.format.specs.Sequences.{mixed, scrambler}
use Rattle.format.specs.Bits.{line, octets_of, flag, bit_of}

-- the 32 bits of a PHY header as a number, the first bit lowest: 4 of the seed, 1 of the aggregation, 23 of the frame length, 4 reserved
unfoldable pub packed : Phy → ℕ
packed h = h.seed % 2 ^ 4 + bit_of h.aggregation * 2 ^ 4 + h.length % 2 ^ 23 * 2 ^ 5 + h.reserved % 2 ^ 4 * 2 ^ 28

unfoldable pub unpacked : ℕ → Phy
unpacked v = record { seed = v % 2 ^ 4; aggregation = (v / 2 ^ 4 % 2 == 1); length = v / 2 ^ 5 % 2 ^ 23; reserved = v / 2 ^ 28 }

-- a number as n octets, the lowest first
unfoldable pub low_first : ℕ → ℕ → List ℕ
low_first zero v = []
low_first (suc n) v = v % 256 ∷ low_first n (v / 256)

-- octets, the lowest first, as a number
unfoldable pub joined : List ℕ → ℕ
joined [] = 0
joined (o ∷ os) = o + 256 * joined os

unfoldable pub phy_octets : Phy → List ℕ
phy_octets h = low_first 4 (packed h)

-- x^16 + x^12 + x^5 + 1, the highest coefficient first
abbrev pub hcs_generator : List Bool
hcs_generator =
    true ∷ false ∷ false ∷ false ∷ true ∷ false ∷ false ∷ false ∷ false ∷ false ∷ false ∷ true ∷ false ∷ false ∷ false ∷ false ∷ true ∷ []

-- the header check sequence of octets, as the two octets that are sent: preset to ones, and every bit inverted
unfoldable pub hcs : List ℕ → List ℕ
hcs os = octets_of 2 (map (λ t. bit_of (not t)) (check bit_ops hcs_generator (replicate 16 true) (map flag (line os))))

-- the first 16 octets of the header word: the PHY header plain, the MAC header and its check scrambled from x(0) on
unfoldable pub header_message : ℕ → List ℕ → List ℕ → List ℕ
header_message seed phy mac = phy ++ mixed (scrambler seed) (mac ++ hcs (phy ++ mac))

-- the header word: those octets and their parity
unfoldable pub header_word : Phy → List ℕ → List ℕ
header_word h mac = let m = header_message h.seed (phy_octets h) mac in m ++ parity m
