-- A frame, chip for chip.
use Rattle.std.specs.Prelude.{◌≡◌, ℕ, zero, suc, ◌+◌, ◌*◌, ◌<◌, ◌≤◌, Bool, true, cond, List, [], ◌∷◌, ◌++◌, length, bit_xor}
use Rattle.std.specs.List.{AllByRecursion as Each}
use Rattle.elements.specs.Octets.{Octet}
use Rattle.format.specs.declared.mode.Mode.{Mode}
use Rattle.format.specs.declared.phy.Phy.{Phy}
use Rattle.format.specs.Sequences.{drawn, spreader}
use Rattle.format.specs.Bits.{line}
use Rattle.format.specs.Codes.{code_a, inverted}
use Rattle.format.specs.Modes.{row}
use Rattle.format.specs.Header.{header_word}
use Rattle.format.specs.Payload.{block_count, payload_bits, repeated, blocks}

-- what a frame is made from
pub record Frame : Type 0 where
  pub mode : Mode
  pub seed : ℕ
  pub aggregation : Bool
  pub mac : List ℕ
  pub body : List ℕ

-- a lawful frame: one that can be built
pub record Lawful (f : Frame) : Type 0 where
  pub seed_fits : f.seed < 16
  pub mac_long : length f.mac ≡ 10
  pub mac_octets : Each Octet f.mac
  pub body_short : length f.body ≤ 2048
  pub body_octets : Each Octet f.body

-- n copies of a row
unfoldable pub copies : ℕ → List ℕ → List ℕ
copies zero chips = []
copies (suc n) chips = chips ++ copies n chips

-- the code a with a sign
abbrev pub signed : Bool → List ℕ
signed minus = cond minus (inverted code_a) code_a

unfoldable pub all_signed : List Bool → List ℕ
all_signed [] = []
all_signed (minus ∷ rest) = signed minus ++ all_signed rest

-- SFD1 is the inverted code, and SFD2 to SFD4 tell the mode
unfoldable pub group : Mode → List ℕ
group m = all_signed (true ∷ (row m).minus)

-- SYNC, 16 codes a channel, and a group for each channel
unfoldable pub preamble : Mode → List ℕ
preamble m = copies (16 * (row m).channels) code_a ++ copies (row m).channels (group m)

-- two rows of bits added place by place
unfoldable pub added : List ℕ → List ℕ → List ℕ
added [] bs = []
added (a ∷ xs) [] = []
added (a ∷ xs) (b ∷ bs) = bit_xor a b ∷ added xs bs

-- each bit of the header word as 16 chips, with the spreader's sequence added
unfoldable pub header_chips : List ℕ → List ℕ
header_chips word = added (repeated 16 (line word)) (drawn 4096 spreader)

-- the PHY header of a frame: reserved is zero
abbrev pub phy_of : Frame → Phy
phy_of f = record { seed = f.seed; aggregation = f.aggregation; length = length f.body; reserved = 0 }

unfoldable pub frame_chips : Frame → List ℕ
frame_chips f =
    preamble f.mode
    ++ (header_chips (header_word (phy_of f) f.mac)
    ++ blocks (row f.mode).spread (block_count (length f.body)) (payload_bits f.seed f.body))

-- the places in a frame of n channels
abbrev pub header_place : ℕ → ℕ
header_place n = 2560 * n

abbrev pub payload_place : ℕ → ℕ
payload_place n = header_place n + 4096

-- how many chips a frame of L octets has
abbrev pub frame_length : Mode → ℕ → ℕ
frame_length m L = payload_place (row m).channels + 512 * (row m).spread * block_count L
