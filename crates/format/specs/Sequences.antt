-- The two bit sequences, both with t(j) = t(j - 14) + t(j - 15).
-- A register is the number whose bit k is t(j - 1 - k), for k from 0 to 14.
use Rattle.std.specs.Prelude.{ℕ, zero, suc, ◌+◌, ◌*◌, ◌/◌, ◌%◌, ◌^◌, List, [], ◌∷◌, bit_xor}

-- the number whose bits, the lowest first, are given
abbrev pub value : List ℕ → ℕ
value [] = 0
value (b ∷ bs) = b + 2 * value bs

-- the next bit, t(j)
unfoldable pub next : ℕ → ℕ
next r = (r / 2 ^ 13 + r / 2 ^ 14) % 2

unfoldable pub advanced : ℕ → ℕ
advanced r = (r * 2 + next r) % 2 ^ 15

-- the register after n bits
unfoldable pub after : ℕ → ℕ → ℕ
after zero r = r
after (suc n) r = after n (advanced r)

-- the next n bits
unfoldable pub drawn : ℕ → ℕ → List ℕ
drawn zero r = []
drawn (suc n) r = next r ∷ drawn n (advanced r)

-- the next eight bits as an octet, the first one lowest
unfoldable pub key : ℕ → ℕ
key r = value (drawn 8 r)

-- octets with the sequence added, bit by bit in line order
unfoldable pub mixed : ℕ → List ℕ → List ℕ
mixed r [] = []
mixed r (o ∷ os) = bit_xor o (key r) ∷ mixed (after 8 r) os

-- x(-1) to x(-15): eleven fixed bits, and then the seed's four, the highest first
unfoldable pub scrambler : ℕ → ℕ
scrambler seed = value (1 ∷ 1 ∷ 0 ∷ 1 ∷ 0 ∷ 0 ∷ 0 ∷ 0 ∷ 1 ∷ 0 ∷ 1 ∷ seed / 8 % 2 ∷ seed / 4 % 2 ∷ seed / 2 % 2 ∷ seed % 2 ∷ [])

-- y(-1) to y(-15)
unfoldable pub spreader : ℕ
spreader = value (0 ∷ 1 ∷ 0 ∷ 1 ∷ 0 ∷ 0 ∷ 0 ∷ 0 ∷ 0 ∷ 0 ∷ 1 ∷ 1 ∷ 1 ∷ 1 ∷ 1 ∷ [])
