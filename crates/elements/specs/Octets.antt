-- Octets as polynomials over the bits, of degree 7 at most, modulo x^8 + x^4 + x^3 + x^2 + 1. Bit 0 is the constant term.
use Rattle.std.specs.Prelude.{ℕ, zero, suc, ◌*◌, ◌/◌, ◌%◌, ◌<◌, eqb}
use Rattle.std.specs.Int.Bits.{bit_xor}
use Rattle.elements.specs.Laws.{Operations}

abbrev pub Octet : ℕ → Type 0
Octet a = a < 256

-- a under a bit: a at 1, and 0 at 0
abbrev pub when : ℕ → ℕ → ℕ
when zero a = 0
when (suc b) a = a

-- x times a: the coefficient of x^8, if any, is taken back as x^4 + x^3 + x^2 + 1
unfoldable pub double : ℕ → ℕ
double a = bit_xor (a * 2 % 256) (when (a / 128 % 2) 0x1d)

-- a times the polynomial of the k lowest bits of b, by Horner's rule
unfoldable pub times : ℕ → ℕ → ℕ → ℕ
times zero a b = 0
times (suc k) a b = bit_xor (when (b % 2) a) (double (times k a (b / 2)))

unfoldable pub product : ℕ → ℕ → ℕ
product a b = times 8 a b

-- a to the power 2 + 4 + .. + 2^k
unfoldable pub squares : ℕ → ℕ → ℕ
squares zero a = 1
squares (suc k) a = let s = product a a in product s (squares k s)

-- the 254th power, which is 0 at 0
unfoldable pub inverse : ℕ → ℕ
inverse a = squares 7 a

-- alpha, which is x or 0x02, to the power i
unfoldable pub power : ℕ → ℕ
power zero = 1
power (suc i) = double (power i)

abbrev pub octets : Operations ℕ
octets = record { zero = 0; one = 1; add = bit_xor; neg = λ a. a; mul = product; inv = inverse; same = eqb }
