-- What the parts of a read answer.
use Rattle.std.specs.Prelude.{◌≡◌, ℕ, ◌+◌, ◌-◌, ◌*◌, ◌≤◌, Bool, true, false, List, [], ◌++◌, length, take, drop, replicate, Some, None, Ok, Err, Option, Result, nat_le}
use Rattle.std.specs.List.{AllByRecursion as Each}
use Rattle.words.specs.declared.fault.WordFault.{WordFault}
use Rattle.mending.specs.Menders.{Rule}
use Rattle.mending.specs.Mending.{Mended}
use Rattle.format.specs.declared.fault.DoorFault.{DoorFault}
use Rattle.format.specs.declared.mode.Mode.{Mode}
use Rattle.format.specs.Sequences.{mixed, after, scrambler}
use Rattle.format.specs.Frame.{frame_length, payload_place}
use Rattle.format.specs.Reading.{phy_read, mac_read}
use Rattle.slicer.specs.Slices.{Chip}
use Rattle.faults.specs.declared.delivery.Delivery.{Delivery}
use Rattle.faults.specs.declared.fault.Fault.{Fault}
use Rattle.faults.specs.declared.fault.HeaderFault.{HeaderFault}
use Rattle.faults.specs.declared.fault.HeaderFault.TheVariants.{Word as header_word}
use Rattle.faults.specs.declared.fault.PayloadFault.{PayloadFault}
use Rattle.faults.specs.declared.fault.PayloadFault.TheVariants.{Word as payload_word, Ends}
use Rattle.account.specs.Asks.{Asked, Chain, One, Unmended, Words}
use Rattle.account.specs.Rows.{preamble_row, header_row}
use Rattle.account.specs.Reads.{messages_of, words_read, ByMode, Accounted}
use Rattle.account.specs.declared.head.Head.{Head}

abbrev pub admitted : Option DoorFault → Result (Unit {0}) DoorFault
admitted None = Ok tt
admitted (Some e) = Err e

-- the fields of a header word h, n octets of it mended, or the row that applies to it
abbrev pub fields : List ℕ → ℕ → Option HeaderFault → Result Head HeaderFault
fields h n (Some e) = Err e
fields h n None = Ok (record { phy = phy_read h; mac = mac_read h; mended = n })

abbrev pub header_answer : List ℕ → Result ℕ WordFault → Result Head HeaderFault
header_answer h (Err e) = Err (header_word e)
header_answer h (Ok n) = fields h n (header_row h)

-- the header word w was mended, if need be, and judged
pub record HeaderAs {M : Type 0} (rule : Rule M) (s : M) (w : List ℕ) (r : Result Head HeaderFault) (t : M) : Type 0 where
  pub asks : List Asked
  pub chain : Chain rule s asks t
  pub count : Result ℕ WordFault
  pub word : List ℕ
  pub one : One w asks count word []
  pub answers : r ≡ header_answer word count

-- what a body word's count comes to: a cause has the word's place
abbrev pub word_answer : ℕ → Result ℕ WordFault → Result ℕ PayloadFault
word_answer place (Ok n) = Ok n
word_answer place (Err e) = Err (payload_word place e)

-- the message of a word that is mended stands in the buffer from a place on; one that is not leaves the buffer as it was
abbrev pub Put : Result ℕ WordFault → ℕ → List ℕ → List ℕ → List ℕ → Type 0
Put (Ok n) at message body after = after ≡ take at body ++ (message ++ drop (at + length message) body)
Put (Err e) at message body after = after ≡ body

-- body word k, from 0, was mended, if need be, and its message put into its place
pub record WordAs {M : Type 0} (rule : Rule M) (s : M) (w : List ℕ) (k : ℕ) (r : Result ℕ PayloadFault) (body after : List ℕ) (t : M) : Type 0 where
  pub count : Result ℕ WordFault
  pub word : List ℕ
  pub mended : Mended rule s w count word t
  pub answers : r ≡ word_answer (k + 1) count
  pub put : Put count (224 * k) (take (length word - 16) word) body after

abbrev pub body_answer : Result ℕ Unmended → Result ℕ PayloadFault
body_answer (Ok n) = Ok n
body_answer (Err u) = Err (payload_word u.place u.cause)

-- the body words ws were mended, if need be, in line order: once all are, their messages fill the body
abbrev pub Filled : Result ℕ Unmended → List (List ℕ) → List ℕ → Type 0
Filled (Ok n) vs body = body ≡ messages_of vs
Filled (Err u) vs body = Unit {0}

pub record BodyAs {M : Type 0} (rule : Rule M) (s : M) (ws : List (List ℕ)) (r : Result ℕ PayloadFault) (body : List ℕ) (t : M) : Type 0 where
  pub asks : List Asked
  pub chain : Chain rule s asks t
  pub count : Result ℕ Unmended
  pub words : List (List ℕ)
  pub all : Words 1 ws asks count words []
  pub answers : r ≡ body_answer count
  pub filled : Filled count words body

-- once all body words are mended, the body stands in front of the buffer with the scrambler's sequence taken off
abbrev pub Plain : Result ℕ Unmended → ℕ → ℕ → List (List ℕ) → List ℕ → List ℕ → Type 0
Plain (Ok n) seed L vs body later = later ≡ mixed (after 96 (scrambler seed)) (messages_of vs) ++ drop L body
Plain (Err u) seed L vs body later = drop 2048 later ≡ drop 2048 body

-- by whether the whole frame stands in the window
abbrev pub PayloadBy : Bool → Mode → ℕ → ℕ → List ℕ → List Asked → Result ℕ PayloadFault → List ℕ → List ℕ → Type 0
PayloadBy false m seed L w asks r body later = (asks ≡ []) × (r ≡ Err Ends) × (later ≡ body)
PayloadBy true m seed L w asks r body later = (k : Result ℕ Unmended) × (vs : List (List ℕ)) × Words 1 (words_read m L w) asks k vs [] × (r ≡ body_answer k) × Plain k seed L vs body later

-- the payload of a frame of mode m with L body octets
pub record PayloadAs {M : Type 0} (rule : Rule M) (s : M) (m : Mode) (seed L : ℕ) (w : List ℕ) (r : Result ℕ PayloadFault) (body later : List ℕ) (t : M) : Type 0 where
  pub asks : List Asked
  pub chain : Chain rule s asks t
  pub account : PayloadBy (nat_le (frame_length m L) (length w)) m seed L w asks r body later

-- what the door has seen to
pub record Passed (n : ℕ) (w body mac : List ℕ) : Type 0 where
  pub some : 1 ≤ n
  pub few : n ≤ 4
  pub roomy : 2048 ≤ length body
  pub ten : length mac ≡ 10
  pub long : payload_place n ≤ length w
  pub short : length w ≤ 65536
  pub chips : Each Chip w

-- the two buffers hold zeros
pub record Blank (body mac : List ℕ) : Type 0 where
  pub no_body : body ≡ replicate 2048 0 ++ drop 2048 body
  pub no_mac : mac ≡ replicate 10 0

-- the body buffer once it is cleared after a refusal
abbrev pub cleared : Result Delivery Fault → List ℕ → List ℕ
cleared (Ok d) body = body
cleared (Err e) body = replicate 2048 0 ++ drop 2048 body

-- a read of a window behind the door
pub record FrameAs {M : Type 0} (rule : Rule M) (s : M) (n : ℕ) (w body mac : List ℕ) (r : Result Delivery Fault) (body_then mac_then : List ℕ) (t : M) : Type 0 where
  pub asks : List Asked
  pub chain : Chain rule s asks t
  pub account :
      ByMode (record { channels = n; window = w; body = body; mac = mac; asks = asks; answer = r; body_after = cleared r body_then; mac_after = mac_then }) (preamble_row n w)

-- a read: the mender's states are chained through what it was asked, and by that the read is as it should be
pub record Received {M : Type 0} (rule : Rule M) (s : M) (n : ℕ) (w body mac : List ℕ) (r : Result Delivery Fault) (body_then mac_then : List ℕ) (t : M) : Type 0 where
  pub asks : List Asked
  pub chain : Chain rule s asks t
  pub account : Accounted (record { channels = n; window = w; body = body; mac = mac; asks = asks; answer = r; body_after = body_then; mac_after = mac_then })
