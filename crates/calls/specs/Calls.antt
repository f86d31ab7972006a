-- The call that a text says.
use Rattle.std.specs.Prelude.{ℕ, Bool, cond, List, Ok, Err, vec_items, codes, Result}
use Rattle.std.specs.Str.{bytes_eq}
use Rattle.words.specs.declared.change.Change.{Change}
use Rattle.chosen.specs.declared.leaf.Leaf.{Leaf}
use Rattle.chosen.specs.declared.pile.Pile.{Pile}
use Rattle.calls.specs.declared.call.Call.{Call}
use Rattle.calls.specs.declared.call.Call.TheVariants.{Open, Station, Header, Block, Encode, Codeword, Hcs, Propose, Accept, Mend}
use Rattle.calls.specs.declared.call.StationCall.{StationCall}
use Rattle.calls.specs.declared.call.StationCall.TheVariants.{Build, Read, Mode, Refusal}
use Rattle.lines.specs.declared.wrong.Wrong.{Wrong}
use Rattle.lines.specs.declared.wrong.Wrong.TheVariants.{Call as no_call}
use Rattle.calls.specs.Said.{bind, word_at, number_at, flag_at, room_at, octets_at, chips_at, changes_at, mender_at, counted}

abbrev pub Mending : Type 0
Mending = Pile (Pile (Pile Leaf))

-- a call, with what its words say
pub data Said : Type 0 where
  opens : Mending → Said
  builds : ℕ → Bool → List ℕ → List ℕ → ℕ → Said
  reads : ℕ → List ℕ → ℕ → ℕ → Said
  asks_mode : ℕ → Said
  asks_refusal : ℕ → Said
  header_part : ℕ → List ℕ → Said
  block_part : ℕ → ℕ → List ℕ → Said
  encodes : List ℕ → ℕ → Said
  asks_codeword : List ℕ → Said
  checks : List ℕ → Said
  proposes : Mending → List ℕ → Said
  accepts : List ℕ → List Change → Said
  mends : Mending → List ℕ → Said

abbrev pub station_view : StationCall → Said
station_view (Build b) = builds b.mode b.aggregation (vec_items b.mac) (vec_items b.body) b.room
station_view (Read r) = reads r.channels (vec_items r.window) r.body_room r.mac_room
station_view (Mode m) = asks_mode m
station_view (Refusal n) = asks_refusal n

abbrev pub said : Call → Said
said (Open m) = opens m
said (Station c) = station_view c
said (Header n w) = header_part n (vec_items w)
said (Block m k w) = block_part m k (vec_items w)
said (Encode m n) = encodes (vec_items m) n
said (Codeword w) = asks_codeword (vec_items w)
said (Hcs os) = checks (vec_items os)
said (Propose m w) = proposes m (vec_items w)
said (Accept w cs) = accepts (vec_items w) (vec_items cs)
said (Mend m w) = mends m (vec_items w)

-- the words of each call, in their order; the first that is wrong is told
abbrev pub build_said : List ℕ → Result Said Wrong
build_said t =
    bind (counted 5 6 t) (λ _. bind (number_at 255 t 1) (λ mode. bind (flag_at t 2) (λ aggregation. bind (octets_at t 3) (λ mac. bind (octets_at t 4) (λ body.
    bind (room_at 50176 t 5) (λ room. Ok (builds mode aggregation mac body room)))))))

abbrev pub read_said : List ℕ → Result Said Wrong
read_said t =
    bind (counted 3 5 t) (λ _. bind (number_at 255 t 1) (λ n. bind (chips_at t 2) (λ window. bind (room_at 2048 t 3) (λ body. bind (room_at 10 t 4) (λ mac.
    Ok (reads n window body mac))))))

abbrev pub header_said : List ℕ → Result Said Wrong
header_said t = bind (counted 3 3 t) (λ _. bind (number_at 255 t 1) (λ n. bind (chips_at t 2) (λ window. Ok (header_part n window))))

abbrev pub block_said : List ℕ → Result Said Wrong
block_said t =
    bind (counted 4 4 t) (λ _. bind (number_at 255 t 1) (λ m. bind (number_at 65535 t 2) (λ k. bind (chips_at t 3) (λ window. Ok (block_part m k window)))))

abbrev pub encode_said : List ℕ → Result Said Wrong
encode_said t = bind (counted 2 3 t) (λ _. bind (octets_at t 1) (λ message. bind (room_at 16 t 2) (λ room. Ok (encodes message room))))

abbrev pub accept_said : List ℕ → Result Said Wrong
accept_said t = bind (counted 3 3 t) (λ _. bind (octets_at t 1) (λ w. bind (changes_at t 2) (λ cs. Ok (accepts w cs))))

-- a call with one word
abbrev pub one_said : {X : Type 0} → Result X Wrong → (X → Said) → List ℕ → Result Said Wrong
one_said word make t = bind (counted 2 2 t) (λ _. bind word (λ x. Ok (make x)))

-- a call with a mender and a word for it
abbrev pub mender_said : (Mending → List ℕ → Said) → List ℕ → Result Said Wrong
mender_said make t = bind (counted 3 3 t) (λ _. bind (mender_at t 1) (λ m. bind (octets_at t 2) (λ w. Ok (make m w))))

-- whether the first word is this one
abbrev pub named : List ℕ → List ℕ → Bool
named name t = bytes_eq (word_at t 0) name

-- the calls on a station
abbrev pub station_said : List ℕ → Result Said Wrong
station_said t =
    cond (named (codes "build") t) (build_said t)
    (cond (named (codes "read") t) (read_said t)
    (cond (named (codes "open") t) (one_said (mender_at t 1) opens t)
    (cond (named (codes "mode") t) (one_said (number_at 255 t 1) asks_mode t)
    (cond (named (codes "refusal") t) (one_said (number_at 255 t 1) asks_refusal t) (Err no_call)))))

-- and those without one
abbrev pub call_said : List ℕ → Result Said Wrong
call_said t =
    cond (named (codes "header") t) (header_said t)
    (cond (named (codes "block") t) (block_said t)
    (cond (named (codes "encode") t) (encode_said t)
    (cond (named (codes "accept") t) (accept_said t)
    (cond (named (codes "codeword") t) (one_said (octets_at t 1) asks_codeword t)
    (cond (named (codes "hcs") t) (one_said (octets_at t 1) checks t)
    (cond (named (codes "propose") t) (mender_said proposes t)
    (cond (named (codes "mend") t) (mender_said mends t) (station_said t))))))))
