-- What is read from a window, a list of chips that begins where a frame does.
use Rattle.std.specs.Prelude.{ℕ, zero, suc, ◌+◌, ◌-◌, ◌*◌, ◌/◌, ◌%◌, min, Bool, cond, List, [], ◌∷◌, ◌++◌, map, length, take, drop, Some, None, Option, nat_le, slice_index}
use Rattle.std.specs.List.{range_with_len}
use Rattle.elements.specs.Octets.{octets}
use Rattle.polynomials.specs.Differences.{differing}
use Rattle.format.specs.declared.code.Code.{Code}
use Rattle.format.specs.declared.code.Code.TheVariants.{A, MinusA, B, MinusB}
use Rattle.format.specs.declared.mode.Mode.{Mode}
use Rattle.format.specs.declared.phy.Phy.{Phy}
use Rattle.format.specs.Sequences.{value, drawn, mixed, after, scrambler, spreader}
use Rattle.format.specs.Bits.{octets_of}
use Rattle.format.specs.Codes.{code_a, code_b, inverted}
use Rattle.format.specs.Modes.{row}
use Rattle.format.specs.Header.{unpacked, joined}
use Rattle.format.specs.Frame.{added, header_place, payload_place}

-- the place of the first chip above 1, the first chip at i
abbrev pub bad_from : ℕ → List ℕ → Option ℕ
bad_from i [] = None
bad_from i (c ∷ cs) = cond (nat_le c 1) (bad_from (i + 1) cs) (Some i)

-- code k, from 0, of the first SFD group of n channels
unfoldable pub code_at : ℕ → ℕ → List ℕ → List ℕ
code_at n k w = take 128 (drop (2048 * n + 128 * k) w)

-- whether chips differ from a code in at most 31 places
abbrev pub near : List ℕ → List ℕ → Bool
near chips code = nat_le (differing octets chips code) 31

-- the code that chips are read as: the one that differs from them in at most 31 places
unfoldable pub read_code : List ℕ → Option Code
read_code chips =
    cond (near chips code_a) (Some A)
    (cond (near chips (inverted code_a)) (Some MinusA) (cond (near chips code_b) (Some B) (cond (near chips (inverted code_b)) (Some MinusB) None)))

-- how many bits are one
unfoldable pub ones : List ℕ → ℕ
ones [] = 0
ones (b ∷ bs) = b + ones bs

-- k bits from groups of 16 chips: one where at least 9 of them are
unfoldable pub majorities : ℕ → List ℕ → List ℕ
majorities zero bs = []
majorities (suc k) bs = cond (nat_le 9 (ones (take 16 bs))) 1 0 ∷ majorities k (drop 16 bs)

-- the 4,096 chips of the header of n channels
unfoldable pub header_part : ℕ → List ℕ → List ℕ
header_part n w = take 4096 (drop (header_place n) w)

-- the header word: the spreader's sequence added, and then majorities
unfoldable pub despread : List ℕ → List ℕ
despread chips = octets_of 32 (majorities 256 (added chips (drawn 4096 spreader)))

unfoldable pub header_read : ℕ → List ℕ → List ℕ
header_read n w = despread (header_part n w)

-- where block b, from 0, begins; its pilots end where the next one begins
abbrev pub block_place : Mode → ℕ → ℕ
block_place m b = payload_place (row m).channels + 512 * (row m).spread * b

-- the data chips of a block; none where it is not wholly in the window, pilots too
unfoldable pub block_chips : Mode → ℕ → List ℕ → List ℕ
block_chips m b w = cond (nat_le (block_place m (b + 1)) (length w)) (take (508 * (row m).spread) (drop (block_place m b) w)) []

-- payload bit k: in block k / 508, at k % 508; of a bit sent twice the first chip
unfoldable pub payload_bit : Mode → List ℕ → ℕ → ℕ
payload_bit m w k = slice_index (block_chips m (k / 508) w) ((row m).spread * (k % 508))

-- payload octet j
unfoldable pub payload_octet : Mode → List ℕ → ℕ → ℕ
payload_octet m w j = value (map (λ i. payload_bit m w (8 * j + i)) (range_with_len 0 8))

-- n payload octets from the first on
unfoldable pub payload_octets : Mode → List ℕ → ℕ → ℕ → List ℕ
payload_octets m w first n = map (payload_octet m w) (range_with_len first n)

-- how many octets body word k, from 0, of a body of L octets has
abbrev pub word_length : ℕ → ℕ → ℕ
word_length L k = min 224 (L - 224 * k) + 16

-- body word k as it is read
unfoldable pub word_read : Mode → ℕ → List ℕ → ℕ → List ℕ
word_read m L w k = payload_octets m w (240 * k) (word_length L k)

-- what a header word says: the PHY header's fields, and the MAC header and its check with the sequence taken off
unfoldable pub phy_read : List ℕ → Phy
phy_read word = unpacked (joined (take 4 word))

unfoldable pub plain_read : List ℕ → List ℕ
plain_read word = mixed (scrambler (phy_read word).seed) (take 12 (drop 4 word))

abbrev pub mac_read : List ℕ → List ℕ
mac_read word = take 10 (plain_read word)

abbrev pub hcs_read : List ℕ → List ℕ
hcs_read word = drop 10 (plain_read word)

-- the messages of n body words one after the other
unfoldable pub messages : ℕ → ℕ → (ℕ → List ℕ) → List ℕ
messages zero k word = []
messages (suc n) k word = take (length (word k) - 16) (word k) ++ messages n (suc k) word

-- the body, from body words that are codewords
unfoldable pub body_read : ℕ → ℕ → (ℕ → List ℕ) → List ℕ
body_read seed n word = mixed (after 96 (scrambler seed)) (messages n 0 word)
