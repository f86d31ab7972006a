-- A read behind the door, from the parts that it is made of.
use Rattle.std.proofs.Common.{◌≡◌, ℕ, ◌+◌, ◌-◌, ◌*◌, ◌≤◌, Bool, true, false, cond, eqb, leb, List, [], ◌++◌, length, drop, replicate, Some, None, Ok, Err, Option, Result, sym, refl, ap, ◌∙◌, subst, arith}
use Rattle.std.proofs.lemmas.List.FromFn.{length-map-range_with_len}
use Rattle.std.proofs.lemmas.Bool.{leb-true}
use Rattle.words.specs.declared.fault.WordFault.{WordFault}
use Rattle.mending.specs.Menders.{Rule}
use Rattle.format.specs.declared.mode.Mode.{Mode}
use Rattle.format.specs.declared.phy.Phy.{Phy}
use Rattle.format.specs.Sequences.{mixed, after, scrambler}
use Rattle.format.specs.Payload.{word_count}
use Rattle.format.specs.Frame.{frame_length}
use Rattle.format.specs.Reading.{header_part, despread, header_read, word_read, phy_read, mac_read}
use Rattle.faults.specs.declared.delivery.Delivery.{Delivery}
use Rattle.faults.specs.declared.fault.PreambleFault.{PreambleFault}
use Rattle.faults.specs.declared.fault.HeaderFault.{HeaderFault}
use Rattle.faults.specs.declared.fault.HeaderFault.TheVariants.{Word as header_word, Check, Reserved, Length}
use Rattle.faults.specs.declared.fault.PayloadFault.{PayloadFault}
use Rattle.faults.specs.declared.fault.PayloadFault.TheVariants.{Ends}
use Rattle.faults.specs.declared.fault.Fault.{Fault}
use Rattle.faults.specs.declared.fault.Fault.TheVariants.{Preamble, Header, Payload}
use Rattle.account.specs.Asks.{Asked, One, Words}
use Rattle.account.specs.Rows.{preamble_row, header_row, check_right}
use Rattle.account.specs.Reads.{Read, Turned, Delivered, messages_of, words_read, ByBody, ByLength, ByHeader, ByWord, ByMode}
use Rattle.account.specs.declared.head.Head.{Head}
use Rattle.account.specs.Answers.{fields, header_answer, HeaderAs, Plain, PayloadBy, PayloadAs, Blank, cleared, FrameAs}
use Rattle.account.proofs.WordRuns.{chain_append, one_behind, one_few, words_few}
use Rattle.account.proofs.PayloadRuns.{ok_run, err_run}
use Rattle.account.proofs.Zeros.{zeros_left}

-- ---- the header

-- a header is read from its part of the window
pub head_at : {M : Type 0} (rule : Rule M) (s t : M) (n : ℕ) (w chips : List ℕ) (r : Result Head HeaderFault) → chips ≡ header_part n w
    → HeaderAs rule s (despread chips) r t → HeaderAs rule s (header_read n w) r t
unfolding header_read
head_at rule s t n w chips r is h = subst (λ x. HeaderAs rule s (despread x) r t) is h

-- the fields of a header, and that no row applies to its word
pub record Headed (h : List ℕ) (c : Result ℕ WordFault) (head : Head) : Type 0 where
  pub counts : c ≡ Ok head.mended
  pub no_row : header_row h ≡ None
  pub phy_is : head.phy ≡ phy_read h
  pub mac_is : head.mac ≡ mac_read h

headed_by : (h : List ℕ) (k : ℕ) (head : Head) (o : Option HeaderFault) → header_row h ≡ o → Ok head ≡ fields h k o → Headed h (Ok k) head
headed_by h k head (Some e) is r = let z : ◌≡◌ {A = ℕ} 0 1 = cc in absurd (omega arith)
headed_by h k head None is r =
    let same : head ≡ record { phy = phy_read h; mac = mac_read h; mended = k } = cc in
    record { counts = ap (λ (x : Head). Ok x.mended) (sym same); no_row = is; phy_is = ap (λ (x : Head). x.phy) same; mac_is = ap (λ (x : Head). x.mac) same }

pub headed : (h : List ℕ) (c : Result ℕ WordFault) (head : Head) → Ok head ≡ header_answer h c → Headed h c head
headed h (Err e) head r = let z : ◌≡◌ {A = ℕ} 0 1 = cc in absurd (omega arith)
headed h (Ok k) head r = headed_by h k head (header_row h) refl r

short_by : (a b c : Bool) → cond a (cond b (cond c None (Some Length)) (Some Reserved)) (Some Check) ≡ None → c ≡ true
short_by false b c e = let z : ◌≡◌ {A = ℕ} 0 1 = cc in absurd (omega arith)
short_by true false c e = let z : ◌≡◌ {A = ℕ} 0 1 = cc in absurd (omega arith)
short_by true true false e = let z : ◌≡◌ {A = ℕ} 0 1 = cc in absurd (omega arith)
short_by true true true e = refl

pub headed_short : (h : List ℕ) (c : Result ℕ WordFault) (head : Head) → Headed h c head → head.phy.length ≤ 2048
headed_short h c head is =
    let L = (phy_read h).length in
    let same = ap (λ (p : Phy). p.length) is.phy_is in
    omega (arith, leb-true L 2048 (short_by (check_right h) (eqb (phy_read h).reserved 0) (leb L 2048) is.no_row), same)

row_turned : (r : Read) (m : Mode) (h : List ℕ) (k : ℕ) (e : HeaderFault) (o : Option HeaderFault) → Err e ≡ fields h k o → Turned r (Header e) → ByHeader r m h k [] o
row_turned r m h k e None is t = let z : ◌≡◌ {A = ℕ} 0 1 = cc in absurd (omega arith)
row_turned r m h k e (Some f) is t = let same : e ≡ f = cc in (subst (λ x. Turned r (Header x)) same t, refl)

-- a header that is turned down
word_turned : (r : Read) (m : Mode) (h : List ℕ) (c : Result ℕ WordFault) (e : HeaderFault) → Err e ≡ header_answer h c → Turned r (Header e) → ByWord r m h [] c
word_turned r m h (Err f) e is t = let same : e ≡ header_word f = cc in (subst (λ x. Turned r (Header x)) same t, refl)
word_turned r m h (Ok k) e is t = row_turned r m h k e (header_row h) is t

-- ---- the payload

-- a payload that is turned down leaves what lies behind the first 2,048 octets
payload_kept : (b : Bool) (m : Mode) (seed L : ℕ) (w : List ℕ) (asks : List Asked) (f : PayloadFault) (body later : List ℕ)
    → PayloadBy b m seed L w asks (Err f) body later → drop 2048 later ≡ drop 2048 body
payload_kept false m seed L w asks f body later p = ap (drop 2048) p.2
payload_kept true m seed L w asks f body later p =
    let cause = err_run f p.0 p.3 in
    subst (λ c. Plain c seed L p.1 body later) cause.1 p.4

length_turned : (r : Read) (m : Mode) (h : List ℕ) (k : ℕ) (b : Bool) (seed : ℕ) (asks : List Asked) (f : PayloadFault) (body later : List ℕ)
    → PayloadBy b m seed (phy_read h).length r.window asks (Err f) body later → Turned r (Payload f) → ByLength r m h k asks b
length_turned r m h k false seed asks f body later p t = let e = p.1 in let same : f ≡ Ends = cc in (subst (λ x. Turned r (Payload x)) same t, p.0)
length_turned r m h k true seed asks f body later p t =
    let cause = err_run f p.0 p.3 in
    (p.0, p.1, p.2, subst (λ c. ByBody r m h k c p.1) (sym cause.1) (subst (λ x. Turned r (Payload x)) cause.2 t))

length_delivered : (r : Read) (m : Mode) (h : List ℕ) (k : ℕ) (b : Bool) (seed : ℕ) (asks : List Asked) (n : ℕ) (body later : List ℕ)
    → PayloadBy b m seed (phy_read h).length r.window asks (Ok n) body later
    → ((vs : List (List ℕ)) → later ≡ mixed (after 96 (scrambler seed)) (messages_of vs) ++ drop (phy_read h).length body → Delivered r m h vs (k + n)) → ByLength r m h k asks b
length_delivered r m h k false seed asks n body later p d = let e = p.1 in let z : ◌≡◌ {A = ℕ} 0 1 = cc in absurd (omega arith)
length_delivered r m h k true seed asks n body later p d =
    let counts = ok_run n p.0 p.3 in
    (p.0, p.1, p.2, subst (λ c. ByBody r m h k c p.1) (sym counts) (d p.1 (subst (λ c. Plain c seed (phy_read h).length p.1 body later) counts p.4)))

payload_few : (b : Bool) (m : Mode) (seed L : ℕ) (w : List ℕ) (asks : List Asked) (n : ℕ) (body later : List ℕ) → PayloadBy b m seed L w asks (Ok n) body later → n ≤ 8 * word_count L
payload_few false m seed L w asks n body later p = let e = p.1 in let z : ◌≡◌ {A = ℕ} 0 1 = cc in absurd (omega arith)
payload_few true m seed L w asks n body later p =
    let all = subst (λ c. Words 1 (words_read m L w) asks c p.1 []) (ok_run n p.0 p.3) p.2 in
    omega (arith, words_few 1 (words_read m L w) asks n p.1 [] all, length-map-range_with_len (word_read m L w) 0 (word_count L))

-- ---- the read

abbrev read_of : ℕ → List ℕ → List ℕ → List ℕ → List Asked → Result Delivery Fault → List ℕ → List ℕ → Read
read_of n w body mac asks r later mac_later = record { channels = n; window = w; body = body; mac = mac; asks = asks; answer = r; body_after = cleared r later; mac_after = mac_later }

module _ {M : Type 0} (rule : Rule M) (s : M) (n : ℕ) (w body mac : List ℕ) (blank : Blank body mac) where
  turned : (asks : List Asked) (e : Fault) (later : List ℕ) → drop 2048 later ≡ drop 2048 body → Turned (read_of n w body mac asks (Err e) later mac) e
  turned asks e later kept = record { answers = refl; zeroed = ap (λ l. replicate 2048 0 ++ l) kept; no_mac = blank.no_mac }

  -- the preamble turns it down
  pub by_preamble : (e : PreambleFault) → Err e ≡ preamble_row n w → FrameAs rule s n w body mac (Err (Preamble e)) body mac s
  by_preamble e is =
      record {
        asks = [];
        chain = refl;
        account = subst (ByMode (read_of n w body mac [] (Err (Preamble e)) body mac)) is (turned [] (Preamble e) body refl, refl);
      }

  module _ (m : Mode) (is : Ok m ≡ preamble_row n w) (u : M) where
    -- the header does
    pub by_head : (e : HeaderFault) → HeaderAs rule s (header_read n w) (Err e) u → FrameAs rule s n w body mac (Err (Header e)) body mac u
    by_head e head =
        let r = read_of n w body mac head.asks (Err (Header e)) body mac in
        record {
          asks = head.asks;
          chain = head.chain;
          account = subst (ByMode r) is (head.count, head.word, [], head.one, word_turned r m head.word head.count e head.answers (turned head.asks (Header e) body refl));
        }

    -- behind the header
    module _ (head : Head) (told : HeaderAs rule s (header_read n w) (Ok head) u) (t : M) where
      is_head : Headed told.word told.count head
      is_head = headed told.word told.count head told.answers

      behind : (asks : List Asked) (r : Result Delivery Fault) (later mac_later : List ℕ)
          → ByLength (read_of n w body mac (told.asks ++ asks) r later mac_later) m told.word head.mended asks (leb (frame_length m (phy_read told.word).length) (length w))
          → ByMode (read_of n w body mac (told.asks ++ asks) r later mac_later) (preamble_row n w)
      behind asks r later mac_later b =
          let read = read_of n w body mac (told.asks ++ asks) r later mac_later in
          subst (ByMode read) is (
            told.count,
            told.word,
            asks,
            one_behind (header_read n w) told.asks told.count told.word [] asks told.one,
            subst (ByWord read m told.word asks) (sym is_head.counts) (subst (ByHeader read m told.word head.mended asks) (sym is_head.no_row) b),
          )

      -- the fields are those of the header word
      payload_at : (r : Result ℕ PayloadFault) (later : List ℕ) → PayloadAs rule u m head.phy.seed head.phy.length w r body later t
          → PayloadAs rule u m (phy_read told.word).seed (phy_read told.word).length w r body later t
      payload_at r later p = subst (λ (q : Phy). PayloadAs rule u m q.seed q.length w r body later t) is_head.phy_is p

      -- the payload turns it down
      pub by_payload : (f : PayloadFault) (later : List ℕ) → PayloadAs rule u m head.phy.seed head.phy.length w (Err f) body later t
          → FrameAs rule s n w body mac (Err (Payload f)) later mac t
      by_payload f later given =
          let h = told.word in
          let p = payload_at (Err f) later given in
          let asks = told.asks ++ p.asks in
          let L = (phy_read h).length in
          let whole = leb (frame_length m L) (length w) in
          let read = read_of n w body mac asks (Err (Payload f)) later mac in
          let kept = payload_kept whole m (phy_read h).seed L w p.asks f body later p.account in
          record {
            asks = asks;
            chain = chain_append rule s u t told.asks p.asks told.chain p.chain;
            account = behind p.asks (Err (Payload f)) later mac
                (length_turned read m h head.mended whole (phy_read h).seed p.asks f body later p.account (turned asks (Payload f) later kept));
          }

      -- the frame is delivered
      pub delivers : (k : ℕ) (later mac_later : List ℕ) → mac_later ≡ head.mac → PayloadAs rule u m head.phy.seed head.phy.length w (Ok k) body later t
          → FrameAs rule s n w body mac
          (Ok (record { mode = m; seed = head.phy.seed; aggregation = head.phy.aggregation; length = head.phy.length; mended = head.mended + k })) later mac_later t
      delivers k later mac_later copied given =
          let h = told.word in
          let p = payload_at (Ok k) later given in
          let asks = told.asks ++ p.asks in
          let L = (phy_read h).length in
          let whole = leb (frame_length m L) (length w) in
          let answer : Result Delivery Fault =
          Ok (record { mode = m; seed = head.phy.seed; aggregation = head.phy.aggregation; length = head.phy.length; mended = head.mended + k }) in
          let read = read_of n w body mac asks answer later mac_later in
          let short : L ≤ 2048 = omega (arith, headed_short h told.count head is_head, ap (λ (q : Phy). q.length) is_head.phy_is) in
          let zeros : drop L body ≡ replicate (2048 - L) 0 ++ drop 2048 body = ap (drop L) blank.no_body ∙ zeros_left 2048 L (drop 2048 body) short in
          record {
            asks = asks;
            chain = chain_append rule s u t told.asks p.asks told.chain p.chain;
            account = behind p.asks answer later mac_later
                (length_delivered read m h head.mended whole (phy_read h).seed p.asks k body later p.account
                (λ vs plain. record {
                  answers = ap (λ (q : Phy). Ok (record { mode = m; seed = q.seed; aggregation = q.aggregation; length = q.length; mended = head.mended + k })) is_head.phy_is;
                  filled = plain ∙ ap (λ l. mixed (after 96 (scrambler (phy_read h).seed)) (messages_of vs) ++ l) zeros;
                  mac_filled = copied ∙ is_head.mac_is;
                }));
          }

      pub mended_few : (k : ℕ) (later : List ℕ) → PayloadAs rule u m head.phy.seed head.phy.length w (Ok k) body later t → head.mended + k ≤ 88
      mended_few k later p =
          let L = head.phy.length in
          let one = subst (λ c. One (header_read n w) told.asks c told.word []) is_head.counts told.one in
          omega (
            arith,
            headed_short told.word told.count head is_head,
            one_few (header_read n w) told.asks head.mended told.word [] one,
            payload_few (leb (frame_length m L) (length w)) m head.phy.seed L w p.asks k body later p.account,
          )
