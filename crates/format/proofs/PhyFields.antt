-- The PHY header as a number and as octets, and back.
use Rattle.std.proofs.Common.{◌≡◌, ℕ, zero, suc, ◌/◌, ◌%◌, ◌^◌, ◌<◌, Bool, true, false, eqb, List, [], ◌∷◌, length, refl, ap, ◌∙◌, pow-suc, arith}
use Rattle.std.specs.List.{AllByRecursion as Each}
use Rattle.elements.specs.Octets.{Octet}
use Rattle.format.specs.declared.phy.Phy.{Phy}
use Rattle.format.specs.Bits.{bit_of}
use Rattle.format.specs.Header.{packed, unpacked, low_first, joined, phy_octets}

-- ---- a number as octets

pub low_first_octets : (n v : ℕ) → Each Octet (low_first n v)
unfolding low_first
low_first_octets zero v = tt
low_first_octets (suc n) v = (omega arith, low_first_octets n (v / 256))

pub joined_low_first : (n v : ℕ) → v < 256 ^ n → joined (low_first n v) ≡ v
unfolding joined low_first
joined_low_first zero v h = omega arith
joined_low_first (suc n) v h = omega (arith, joined_low_first n (v / 256) (omega (arith, pow-suc 256 n)))

pub joined_below : (os : List ℕ) → Each Octet os → joined os < 256 ^ length os
unfolding joined
joined_below [] h = omega arith
joined_below (o ∷ os) h = omega (arith, h.0, joined_below os h.1, pow-suc 256 (length os))

-- ---- the fields

pub phy_path : (h k : Phy) → h.seed ≡ k.seed → h.aggregation ≡ k.aggregation → h.length ≡ k.length → h.reserved ≡ k.reserved → h ≡ k
phy_path h k p q r s = λ i. record { seed = p i; aggregation = q i; length = r i; reserved = s i }

pub bit_of_below : (t : Bool) → bit_of t < 2
bit_of_below true = omega arith
bit_of_below false = omega arith

pub eqb_bit_of : (t : Bool) → eqb (bit_of t) 1 ≡ t
eqb_bit_of true = refl
eqb_bit_of false = refl

pub packed_below : (h : Phy) → packed h < 2 ^ 32
unfolding packed
packed_below h = omega (arith, bit_of_below h.aggregation)

pub unpacked_packed : (h : Phy) → h.seed < 2 ^ 4 → h.length < 2 ^ 23 → h.reserved < 2 ^ 4 → unpacked (packed h) ≡ h
unfolding unpacked packed
unpacked_packed h hs hl hr =
    let b = bit_of_below h.aggregation in
    phy_path (unpacked (packed h)) h (omega arith)
    (ap (λ x. eqb x 1) (let e : packed h / 2 ^ 4 % 2 ≡ bit_of h.aggregation = omega arith in e) ∙ eqb_bit_of h.aggregation)
    (omega arith) (omega arith)

pub phy_octets_octets : (h : Phy) → Each Octet (phy_octets h)
unfolding phy_octets
phy_octets_octets h = low_first_octets 4 (packed h)

pub joined_phy_octets : (h : Phy) → joined (phy_octets h) ≡ packed h
unfolding phy_octets
joined_phy_octets h = joined_low_first 4 (packed h) (packed_below h)
