-- The Reed-Solomon code: its generator, the parity of a message, and codewords.
use Rattle.std.specs.Prelude.{◌≡◌, ℕ, zero, suc, ◌-◌, ◌≤◌, List, [], ◌∷◌, length, take, drop, replicate, ◌≢◌}
use Rattle.std.specs.List.{AllByRecursion as Each}
use Rattle.elements.specs.Octets.{octets, Octet, power}
use Rattle.polynomials.specs.Polynomials.{poly_product}
use Rattle.polynomials.specs.Checks.{check}
use Rattle.polynomials.specs.Differences.{differing}

-- the product of x + alpha^i for i from 1 to n, the highest coefficient first
unfoldable pub roots_up_to : ℕ → List ℕ
roots_up_to zero = 1 ∷ []
roots_up_to (suc n) = poly_product octets (1 ∷ power (suc n) ∷ []) (roots_up_to n)

-- the generator has the roots alpha^1 to alpha^16
unfoldable pub generator : List ℕ
unfolding roots_up_to
generator = roots_up_to 16

-- the parity: the remainder of x^16 times the message by the generator
unfoldable pub parity : List ℕ → List ℕ
parity message = check octets generator (replicate 16 0) message

-- a codeword: a message of 1 to 224 octets, followed by its parity
pub record Codeword (w : List ℕ) : Type 0 where
  pub octets_all : Each Octet w
  pub long : 17 ≤ length w
  pub short : length w ≤ 240
  pub ends : drop (length w - 16) w ≡ parity (take (length w - 16) w)

-- two different codewords of one length differ in at least n places
abbrev pub ApartBy : ℕ → Type 0
ApartBy n = (c d : List ℕ) → Codeword c → Codeword d → length c ≡ length d → (c ≢ d) → n ≤ differing octets c d

-- at most one codeword lies within n places of a word
abbrev pub OneWithin : ℕ → Type 0
OneWithin n =
    (w c d : List ℕ) → Codeword c → Codeword d → length w ≡ length c → length w ≡ length d
    → differing octets w c ≤ n → differing octets w d ≤ n → c ≡ d
