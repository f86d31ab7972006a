-- What the door has seen to, and a read from what is read behind it.
use Rattle.std.proofs.Common.{◌≡◌, ℕ, ◌-◌, ◌≤◌, Bool, true, false, cond, ◌&&◌, eqb, leb, List, [], ◌++◌, length, take, drop, replicate, Some, None, Ok, Err, Option, Result, sym, refl, ap, ◌∙◌, subst, arith}
use Rattle.std.specs.Result.{is_err}
use Rattle.std.proofs.lemmas.List.{length-append, length-replicate, length-take-le}
use Rattle.std.proofs.lemmas.Bool.{and_parts, leb-true, eqb-true}
use Rattle.std.proofs.lemmas.Bool.Decides.{nat_tests}
use Rattle.words.specs.declared.fault.WordFault.{WordFault}
use Rattle.mending.specs.Menders.{Rule}
use Rattle.format.specs.declared.fault.DoorFault.{DoorFault}
use Rattle.format.specs.declared.fault.DoorFault.TheVariants.{Channels, Buffers, Window}
use Rattle.format.specs.declared.mode.Mode.{Mode}
use Rattle.format.specs.Sequences.{mixed, after, scrambler}
use Rattle.format.specs.Frame.{payload_place, frame_length}
use Rattle.format.specs.Reading.{bad_from, phy_read}
use Rattle.windows.specs.Parts.{header_row as part_row}
use Rattle.slicer.proofs.Payloads.{good_chips}
use Rattle.faults.specs.declared.delivery.Delivery.{Delivery}
use Rattle.faults.specs.declared.fault.PreambleFault.{PreambleFault}
use Rattle.faults.specs.declared.fault.HeaderFault.{HeaderFault}
use Rattle.faults.specs.declared.fault.HeaderFault.TheVariants.{Word as header_word}
use Rattle.faults.specs.declared.fault.PayloadFault.TheVariants.{Word as payload_word, Ends}
use Rattle.faults.specs.declared.fault.Fault.{Fault}
use Rattle.faults.specs.declared.fault.Fault.TheVariants.{Door, Preamble, Header, Payload}
use Rattle.account.specs.Asks.{Asked, Unmended}
use Rattle.account.specs.Rows.{chip_row, door_row, preamble_row, header_row}
use Rattle.account.specs.Reads.{Read, Turned, messages_of, ByBody, ByLength, ByHeader, ByWord, ByMode, ByDoor}
use Rattle.account.specs.Answers.{admitted, Passed, Blank, cleared, FrameAs, Received}
use Rattle.account.proofs.Zeros.{behind_zeros}

pub ok_admitted : (o : Option DoorFault) → Ok tt ≡ admitted o → o ≡ None
ok_admitted None e = refl
ok_admitted (Some f) e = let z : ◌≡◌ {A = ℕ} 0 1 = cc in absurd (omega arith)

err_admitted : (o : Option DoorFault) (e : DoorFault) → Err e ≡ admitted o → o ≡ Some e
err_admitted None e h = let z : ◌≡◌ {A = ℕ} 0 1 = cc in absurd (omega arith)
err_admitted (Some f) e h = cc

-- a test that no row applies to
no_row : {A : Type 0} (b : Bool) (x : Option A) (e : A) → cond b x (Some e) ≡ None → (b ≡ true) × (x ≡ None)
no_row true x e h = (refl, h)
no_row false x e h = let z : ◌≡◌ {A = ℕ} 0 1 = cc in absurd (omega arith)

no_chip : (o : Option ℕ) → chip_row o ≡ None → o ≡ None
no_chip None h = refl
no_chip (Some p) h = let z : ◌≡◌ {A = ℕ} 0 1 = cc in absurd (omega arith)

pub passed : (n : ℕ) (w body mac : List ℕ) → door_row n w body mac ≡ None → Passed n w body mac
passed n w body mac h =
    let a = no_row (leb 1 n && leb n 4) _ Channels h in
    let b = no_row (leb 2048 (length body) && eqb (length mac) 10) _ Buffers a.1 in
    let c = no_row (leb (payload_place n) (length w) && leb (length w) 65536) _ Window b.1 in
    let channels = and_parts (leb 1 n) (leb n 4) a.0 in
    let buffers = and_parts (leb 2048 (length body)) (eqb (length mac) 10) b.0 in
    let size = and_parts (leb (payload_place n) (length w)) (leb (length w) 65536) c.0 in
    record {
      some = leb-true 1 n channels.0;
      few = leb-true n 4 channels.1;
      roomy = leb-true 2048 (length body) buffers.0;
      ten = eqb-true (length mac) 10 buffers.1;
      long = leb-true (payload_place n) (length w) size.0;
      short = leb-true (length w) 65536 size.1;
      chips = good_chips w (no_chip (bad_from 0 w) c.1);
    }

-- ---- the buffers

-- zeros fill the front of the body buffer
pub zeroed : (body front : List ℕ) → 2048 ≤ length body → front ≡ replicate (length (take 2048 body)) 0 → front ++ drop 2048 body ≡ replicate 2048 0 ++ drop 2048 body
zeroed body front h e = ap (λ l. l ++ drop 2048 body) (e ∙ ap (λ n. replicate n 0) (length-take-le 2048 body h))

-- behind its zeros a buffer is as it was
pub behind : (body body' : List ℕ) → body' ≡ replicate 2048 0 ++ drop 2048 body → drop 2048 body' ≡ drop 2048 body
behind body body' e = ap (drop 2048) e ∙ behind_zeros 2048 (drop 2048 body)

-- a buffer of the same length has room
pub roomy_on : (body front later : List ℕ) → 2048 ≤ length body → length front ≡ length (take 2048 body) → length later ≡ length (front ++ drop 2048 body) → 2048 ≤ length later
roomy_on body front later h f l = omega (arith, length-append front (drop 2048 body), length-take-le 2048 body h)

-- what the door has seen to holds of the cleared buffers
pub cleared_on : (n : ℕ) (w body mac w' body' mac' : List ℕ) → w' ≡ w → body' ≡ replicate 2048 0 ++ drop 2048 body → mac' ≡ replicate (length mac) 0 → Passed n w body mac
    → Passed n w' body' mac' × Blank body' mac'
cleared_on n w body mac w' body' mac' same b m p =
    let zeros = length-replicate {A = ℕ} 2048 0 in
    let roomy : 2048 ≤ length body' = omega (arith, ap length b, length-append (replicate 2048 0) (drop 2048 body), zeros) in
    let ten : length mac' ≡ 10 = ap length m ∙ length-replicate (length mac) 0 ∙ p.ten in (
      subst (λ x. Passed n x body' mac') (sym same) (record { some = p.some; few = p.few; roomy = roomy; ten = ten; long = p.long; short = p.short; chips = p.chips }),
      record { no_body = b ∙ ap (λ l. replicate 2048 0 ++ l) (sym (behind body body' b)); no_mac = m ∙ ap (λ k. replicate k 0) p.ten },
    )

-- ---- the read

abbrev a_read : ℕ → List ℕ → List ℕ → List ℕ → List Asked → Result Delivery Fault → List ℕ → List ℕ → Read
a_read n w body mac asks answer body_then mac_then =
    record { channels = n; window = w; body = body; mac = mac; asks = asks; answer = answer; body_after = body_then; mac_after = mac_then }

-- a read behind the door says the same of buffers that have the same octets behind the first 2,048
module _ (n : ℕ) (w body mac body' mac' : List ℕ) (asked : List Asked) (answer : Result Delivery Fault) (body_then mac_then : List ℕ) (same : drop 2048 body' ≡ drop 2048 body) where
  turned_on : (e : Fault) → Turned (a_read n w body' mac' asked answer body_then mac_then) e → Turned (a_read n w body mac asked answer body_then mac_then) e
  turned_on e t = record { answers = t.answers; zeroed = t.zeroed ∙ ap (λ l. replicate 2048 0 ++ l) same; no_mac = t.no_mac }

  body_on : (m : Mode) (h : List ℕ) (k : ℕ) (c : Result ℕ Unmended) (vs : List (List ℕ)) → ByBody (a_read n w body' mac' asked answer body_then mac_then) m h k c vs
      → ByBody (a_read n w body mac asked answer body_then mac_then) m h k c vs
  body_on m h k (Err u) vs t = turned_on (Payload (payload_word u.place u.cause)) t
  body_on m h k (Ok j) vs d =
      record {
        answers = d.answers;
        filled = d.filled ∙ ap (λ l. mixed (after 96 (scrambler (phy_read h).seed)) (messages_of vs) ++ (replicate (2048 - (phy_read h).length) 0 ++ l)) same;
        mac_filled = d.mac_filled;
      }

  length_on : (m : Mode) (h : List ℕ) (k : ℕ) (asks : List Asked) (b : Bool) → ByLength (a_read n w body' mac' asked answer body_then mac_then) m h k asks b
      → ByLength (a_read n w body mac asked answer body_then mac_then) m h k asks b
  length_on m h k asks false x = (turned_on (Payload Ends) x.0, x.1)
  length_on m h k asks true x = (x.0, x.1, x.2, body_on m h k x.0 x.1 x.3)

  header_on : (m : Mode) (h : List ℕ) (k : ℕ) (asks : List Asked) (o : Option HeaderFault) → ByHeader (a_read n w body' mac' asked answer body_then mac_then) m h k asks o
      → ByHeader (a_read n w body mac asked answer body_then mac_then) m h k asks o
  header_on m h k asks (Some e) x = (turned_on (Header e) x.0, x.1)
  header_on m h k asks None x = length_on m h k asks (leb (frame_length m (phy_read h).length) (length w)) x

  word_on : (m : Mode) (h : List ℕ) (asks : List Asked) (c : Result ℕ WordFault) → ByWord (a_read n w body' mac' asked answer body_then mac_then) m h asks c
      → ByWord (a_read n w body mac asked answer body_then mac_then) m h asks c
  word_on m h asks (Err e) x = (turned_on (Header (header_word e)) x.0, x.1)
  word_on m h asks (Ok k) x = header_on m h k asks (header_row h) x

  mode_on : (p : Result Mode PreambleFault) → ByMode (a_read n w body' mac' asked answer body_then mac_then) p → ByMode (a_read n w body mac asked answer body_then mac_then) p
  mode_on (Err e) x = (turned_on (Preamble e) x.0, x.1)
  mode_on (Ok m) x = (x.0, x.1, x.2, x.3, word_on m x.1 x.2 x.0 x.4)

pub cleared_err : (r : Result Delivery Fault) (body : List ℕ) → is_err r ≡ true → cleared r body ≡ replicate 2048 0 ++ drop 2048 body
cleared_err (Ok d) body e = cc
cleared_err (Err f) body e = refl

pub cleared_ok : (r : Result Delivery Fault) (body : List ℕ) → is_err r ≡ false → cleared r body ≡ body
cleared_ok (Ok d) body e = refl
cleared_ok (Err f) body e = cc

-- the door is passed, the buffers are cleared, and the frame is read
pub received : {M : Type 0} (rule : Rule M) (s t : M) (n : ℕ) (w body mac w' body' mac' : List ℕ) (r : Result Delivery Fault) (body_then mac_then later : List ℕ)
    → door_row n w body mac ≡ None → w' ≡ w → body' ≡ replicate 2048 0 ++ drop 2048 body → later ≡ cleared r body_then
    → FrameAs rule s n w' body' mac' r body_then mac_then t → Received rule s n w body mac r later mac_then t
received rule s t n w body mac w' body' mac' r body_then mac_then later door seen zeros ends f =
    let row = preamble_row n w in
    let there = subst (λ x. ByMode (a_read n x body' mac' f.asks r (cleared r body_then) mac_then) (preamble_row n x)) seen f.account in
    let account = mode_on n w body mac body' mac' f.asks r (cleared r body_then) mac_then (behind body body' zeros) row there in
    record {
      asks = f.asks;
      chain = f.chain;
      account = subst (ByDoor (a_read n w body mac f.asks r later mac_then)) (sym door) (subst (λ x. ByMode (a_read n w body mac f.asks r x mac_then) row) (sym ends) account);
    }

-- the door turns it down
pub refused : {M : Type 0} (rule : Rule M) (s : M) (n : ℕ) (w body mac : List ℕ) (e : DoorFault) → Err e ≡ admitted (door_row n w body mac) → Received rule s n w body mac (Err (Door e)) body mac s
refused rule s n w body mac e door =
    record {
      asks = [];
      chain = refl;
      account = subst (ByDoor (a_read n w body mac [] (Err (Door e)) body mac)) (sym (err_admitted (door_row n w body mac) e door)) (refl, refl, refl, refl);
    }
