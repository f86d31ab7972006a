-- A read, by what the mender was asked and proposed.
use Rattle.std.specs.Prelude.{◌≡◌, ℕ, ◌+◌, ◌-◌, Bool, true, false, List, [], ◌∷◌, ◌++◌, map, length, take, drop, replicate, Some, None, Ok, Err, Option, Result, nat_le}
use Rattle.std.specs.List.{range_with_len}
use Rattle.words.specs.declared.fault.WordFault.{WordFault}
use Rattle.format.specs.declared.fault.DoorFault.{DoorFault}
use Rattle.format.specs.declared.mode.Mode.{Mode}
use Rattle.format.specs.Sequences.{mixed, after, scrambler}
use Rattle.format.specs.Payload.{word_count}
use Rattle.format.specs.Frame.{frame_length}
use Rattle.format.specs.Reading.{header_read, word_read, phy_read, mac_read}
use Rattle.faults.specs.declared.delivery.Delivery.{Delivery}
use Rattle.faults.specs.declared.fault.PreambleFault.{PreambleFault}
use Rattle.faults.specs.declared.fault.HeaderFault.{HeaderFault}
use Rattle.faults.specs.declared.fault.HeaderFault.TheVariants.{Word as header_word}
use Rattle.faults.specs.declared.fault.PayloadFault.TheVariants.{Word as payload_word, Ends}
use Rattle.faults.specs.declared.fault.Fault.{Fault}
use Rattle.faults.specs.declared.fault.Fault.TheVariants.{Door, Preamble, Header, Payload}
use Rattle.account.specs.Asks.{Asked, One, Unmended, Words}
use Rattle.account.specs.Rows.{door_row, preamble_row, header_row}

-- a read: the channels named, the window, and the two buffers as it began; what the mender was asked and proposed;
-- the answer, and the buffers as it ended
pub record Read : Type 0 where
  pub channels : ℕ
  pub window : List ℕ
  pub body : List ℕ
  pub mac : List ℕ
  pub asks : List Asked
  pub answer : Result Delivery Fault
  pub body_after : List ℕ
  pub mac_after : List ℕ

-- the read answers with a refusal behind the door: the first 2,048 body octets and the MAC header buffer are zero
pub record Turned (r : Read) (e : Fault) : Type 0 where
  pub answers : r.answer ≡ Err e
  pub zeroed : r.body_after ≡ replicate 2048 0 ++ drop 2048 r.body
  pub no_mac : r.mac_after ≡ replicate 10 0

-- the messages of words, one after the other
abbrev pub messages_of : List (List ℕ) → List ℕ
messages_of [] = []
messages_of (v ∷ vs) = take (length v - 16) v ++ messages_of vs

-- the frame of mode m with header word h and body words vs is delivered, k octets of it mended
pub record Delivered (r : Read) (m : Mode) (h : List ℕ) (vs : List (List ℕ)) (k : ℕ) : Type 0 where
  pub answers : r.answer ≡ Ok (record { mode = m; seed = (phy_read h).seed; aggregation = (phy_read h).aggregation; length = (phy_read h).length; mended = k })
  pub filled : r.body_after ≡ mixed (after 96 (scrambler (phy_read h).seed)) (messages_of vs) ++ (replicate (2048 - (phy_read h).length) 0 ++ drop 2048 r.body)
  pub mac_filled : r.mac_after ≡ mac_read h

-- the body words of a window
abbrev pub words_read : Mode → ℕ → List ℕ → List (List ℕ)
words_read m L w = map (word_read m L w) (range_with_len 0 (word_count L))

-- once the body words are read, n octets of the header word being mended
abbrev pub ByBody : Read → Mode → List ℕ → ℕ → Result ℕ Unmended → List (List ℕ) → Type 0
ByBody r m h n (Err u) vs = Turned r (Payload (payload_word u.place u.cause))
ByBody r m h n (Ok k) vs = Delivered r m h vs (n + k)

-- by whether the whole frame stands in the window
abbrev pub ByLength : Read → Mode → List ℕ → ℕ → List Asked → Bool → Type 0
ByLength r m h n asks false = Turned r (Payload Ends) × (asks ≡ [])
ByLength r m h n asks true =
    (k : Result ℕ Unmended) × (vs : List (List ℕ)) × Words 1 (words_read m (phy_read h).length r.window) asks k vs [] × ByBody r m h n k vs

abbrev pub ByHeader : Read → Mode → List ℕ → ℕ → List Asked → Option HeaderFault → Type 0
ByHeader r m h n asks (Some e) = Turned r (Header e) × (asks ≡ [])
ByHeader r m h n asks None = ByLength r m h n asks (nat_le (frame_length m (phy_read h).length) (length r.window))

-- once the header word has gone to the mender, if it is no codeword: h is the word then
abbrev pub ByWord : Read → Mode → List ℕ → List Asked → Result ℕ WordFault → Type 0
ByWord r m h asks (Err e) = Turned r (Header (header_word e)) × (asks ≡ [])
ByWord r m h asks (Ok n) = ByHeader r m h n asks (header_row h)

abbrev pub ByMode : Read → Result Mode PreambleFault → Type 0
ByMode r (Err e) = Turned r (Preamble e) × (r.asks ≡ [])
ByMode r (Ok m) = (n : Result ℕ WordFault) × (h : List ℕ) × (asks : List Asked) × One (header_read r.channels r.window) r.asks n h asks × ByWord r m h asks n

abbrev pub ByDoor : Read → Option DoorFault → Type 0
ByDoor r (Some e) = (r.answer ≡ Err (Door e)) × (r.body_after ≡ r.body) × (r.mac_after ≡ r.mac) × (r.asks ≡ [])
ByDoor r None = ByMode r (preamble_row r.channels r.window)

-- the first row that applies is the answer; where none does, the frame is delivered
abbrev pub Accounted : Read → Type 0
Accounted r = ByDoor r (door_row r.channels r.window r.body r.mac)
