-- When a frame fits a window, and that a frame's own chips read as the frame.
use Rattle.std.specs.Prelude.{◌≡◌, ℕ, zero, suc, ◌+◌, ◌*◌, ◌<◌, ◌≤◌, List, ◌++◌, length, take, drop}
use Rattle.elements.specs.Octets.{octets}
use Rattle.polynomials.specs.Differences.{differing}
use Rattle.coding.specs.Codewords.{Codeword}
use Rattle.format.specs.Modes.{row}
use Rattle.format.specs.Header.{hcs, header_word}
use Rattle.format.specs.Payload.{word_count, body_octets}
use Rattle.format.specs.Frame.{Frame, Lawful, group, phy_of, frame_chips, frame_length}
use Rattle.format.specs.Reading.{code_at, header_read, word_length, word_read, phy_read, mac_read, hcs_read, body_read}

-- a frame's own codes and words
abbrev pub own_code : Frame → ℕ → List ℕ
own_code f k = take 128 (drop (128 * k) (group f.mode))

abbrev pub own_header : Frame → List ℕ
own_header f = header_word (phy_of f) f.mac

unfoldable pub own_word : Frame → ℕ → List ℕ
own_word f k = take (word_length (length f.body) k) (drop (240 * k) (body_octets f.seed f.body))

-- how many body words a frame has
abbrev pub own_count : Frame → ℕ
own_count f = word_count (length f.body)

-- the frame fits the window within r: its channels are those named, the window is at least as long, each code of the first SFD group
-- differs in at most 31 chips, and the header word and each body word, read where the frame's own stand, differ in at most r octets
pub record Fits (r n : ℕ) (f : Frame) (w : List ℕ) : Type 0 where
  pub channels : (row f.mode).channels ≡ n
  pub long : frame_length f.mode (length f.body) ≤ length w
  pub codes : (k : ℕ) → k < 4 → differing octets (code_at n k w) (own_code f k) ≤ 31
  pub header : differing octets (header_read n w) (own_header f) ≤ r
  pub words : (k : ℕ) → k < own_count f → differing octets (word_read f.mode (length f.body) w k) (own_word f k) ≤ r

-- in how many octets the n body words from k on differ
unfoldable pub words_apart : Frame → List ℕ → ℕ → ℕ → ℕ
words_apart f w zero k = 0
words_apart f w (suc n) k = differing octets (word_read f.mode (length f.body) w k) (own_word f k) + words_apart f w n (suc k)

-- the word octets in which window and frame differ, over the header word and all body words
abbrev pub octets_apart : ℕ → Frame → List ℕ → ℕ
octets_apart n f w = differing octets (header_read n w) (own_header f) + words_apart f w (own_count f) 0

-- a window that begins with a frame's chips reads as the frame: its codes, its words, which are codewords, and every field
pub record ReadsAs (f : Frame) (w : List ℕ) : Type 0 where
  pub codes : (k : ℕ) → k < 4 → code_at (row f.mode).channels k w ≡ own_code f k
  pub header : header_read (row f.mode).channels w ≡ own_header f
  pub words : (k : ℕ) → k < own_count f → word_read f.mode (length f.body) w k ≡ own_word f k
  pub header_code : Codeword (own_header f)
  pub word_code : (k : ℕ) → k < own_count f → Codeword (own_word f k)
  pub phy : phy_read (own_header f) ≡ phy_of f
  pub mac : mac_read (own_header f) ≡ f.mac
  pub check : hcs_read (own_header f) ≡ hcs (take 4 (own_header f) ++ mac_read (own_header f))
  pub body : body_read f.seed (own_count f) (own_word f) ≡ f.body

-- so does every lawful frame
abbrev pub FramesReadBack : Type 0
FramesReadBack = (f : Frame) (rest : List ℕ) → Lawful f → ReadsAs f (frame_chips f ++ rest)

-- at most one lawful frame for n channels fits a window within r
abbrev pub OneFits : ℕ → Type 0
OneFits r = (n : ℕ) (f g : Frame) (w : List ℕ) → Lawful f → Lawful g → Fits r n f w → Fits r n g w → f ≡ g
