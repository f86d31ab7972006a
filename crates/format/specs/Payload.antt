-- The payload: body words, stuff bits and blocks.
use Rattle.std.specs.Prelude.{ℕ, zero, suc, ◌+◌, ◌-◌, ◌*◌, ◌/◌, List, [], ◌∷◌, ◌++◌, length, take, drop, replicate}
use Rattle.coding.specs.Codewords.{parity}
use Rattle.format.specs.Sequences.{after, drawn, mixed, scrambler}
use Rattle.format.specs.Bits.{line}

-- for a body of L octets: how many words, how many octets in them, how many blocks of 508 bits, how many stuff bits
abbrev pub word_count : ℕ → ℕ
word_count L = (L + 223) / 224

abbrev pub coded_octets : ℕ → ℕ
coded_octets L = L + 16 * word_count L

abbrev pub block_count : ℕ → ℕ
block_count L = (8 * coded_octets L + 507) / 508

abbrev pub stuff_count : ℕ → ℕ
stuff_count L = 508 * block_count L - 8 * coded_octets L

-- n messages of 224 octets (the last may be shorter), each with its parity
unfoldable pub coded : ℕ → List ℕ → List ℕ
coded zero os = []
coded (suc n) os = (take 224 os ++ parity (take 224 os)) ++ coded n (drop 224 os)

-- the octets of the body words: the body is scrambled from x(96) on
unfoldable pub body_octets : ℕ → List ℕ → List ℕ
body_octets seed body = coded (word_count (length body)) (mixed (after 96 (scrambler seed)) body)

-- the payload's bits: those of the body words, and then stuff bits, which are zeros scrambled from where the body left the sequence
unfoldable pub payload_bits : ℕ → List ℕ → List ℕ
payload_bits seed body = line (body_octets seed body) ++ drawn (stuff_count (length body)) (after (96 + 8 * length body) (scrambler seed))

-- each bit sent n times
unfoldable pub repeated : ℕ → List ℕ → List ℕ
repeated n [] = []
repeated n (b ∷ bs) = replicate n b ++ repeated n bs

-- the pilots behind a block: 1010, each sent n times
unfoldable pub pilots : ℕ → List ℕ
unfolding repeated
pilots n = repeated n (1 ∷ 0 ∷ 1 ∷ 0 ∷ [])

-- k blocks: 508 bits, each sent n times, and then the pilots
unfoldable pub blocks : ℕ → ℕ → List ℕ → List ℕ
blocks n zero bs = []
blocks n (suc k) bs = repeated n (take 508 bs) ++ (pilots n ++ blocks n k (drop 508 bs))
