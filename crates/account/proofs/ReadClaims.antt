-- A read that is accounted for, by a mender that keeps its laws, is right: only one frame is delivered, and within the reach it must be.
use Rattle.std.proofs.Common.{◌≡◌, ℕ, ◌+◌, ◌<◌, ◌≤◌, Bool, true, false, eqb, leb, ◌⊎◌, List, [], ◌++◌, map, length, take, Some, None, Ok, Err, Option, Result, sym, refl, ap, ◌∙◌, subst, ap₂, subst₂, inl, inr, ⊎_elim, arith}
use Rattle.std.specs.List.{range_with_len, AllZip, AllByRecursion as Each}
use Rattle.std.proofs.lemmas.List.{take_at}
use Rattle.std.proofs.lemmas.Bool.{both_ways, leb-true, le-leb, eq-eqb}
use Rattle.elements.specs.Octets.{octets}
use Rattle.polynomials.specs.Differences.{differing}
use Rattle.words.specs.declared.fault.WordFault.{WordFault}
use Rattle.mending.specs.Menders.{Rule, Mends}
use Rattle.format.specs.declared.fault.DoorFault.{DoorFault}
use Rattle.format.specs.declared.mode.Mode.{Mode}
use Rattle.format.specs.declared.phy.Phy.{Phy}
use Rattle.format.specs.Frame.{Frame, Lawful, phy_of, frame_chips, frame_length}
use Rattle.format.specs.Reading.{header_read, word_read, phy_read}
use Rattle.format.specs.Fits.{own_header, own_word, own_count, Fits, octets_apart, ReadsAs}
use Rattle.format.proofs.Lengths.{length_header_word}
use Rattle.format.proofs.LineBits.{Bit}
use Rattle.format.proofs.PayloadBack.{length_own_word}
use Rattle.format.proofs.ReadsBack.{frames_read_back, differing_same}
use Rattle.format.proofs.OnlyOne.{frame_path, length_header_read, length_word_read, one_fits}
use Rattle.faults.specs.declared.delivery.Delivery.{Delivery}
use Rattle.faults.specs.declared.fault.Fault.{Fault}
use Rattle.faults.specs.declared.fault.PreambleFault.{PreambleFault}
use Rattle.faults.specs.declared.fault.HeaderFault.{HeaderFault}
use Rattle.account.specs.Asks.{Asked, Chain, Unmended}
use Rattle.account.specs.Rows.{door_row, preamble_row, check_right, header_row}
use Rattle.account.specs.Reads.{Read, Delivered, words_read, ByBody, ByLength, ByHeader, ByWord, ByMode, ByDoor, Accounted}
use Rattle.account.specs.Claims.{frame_read, OnlyOne, ReadRight}
use Rattle.account.proofs.WindowOctets.{door_chips, header_octets, words_octets}
use Rattle.account.proofs.MendedWords.{Near, apart, Mended, mended_one, AllMended, mended_all}
use Rattle.account.proofs.ModeRead.{mode_fits}
use Rattle.account.proofs.DeliveredFrame.{each_counted, frame_of, Makes, makes}

-- what a read comes to: it delivers only one frame, or it is turned down and, if it passed the door, no lawful frame fits the window within the reach
abbrev Delivers : Read → Type 0
Delivers r = (d : Delivery) × (r.answer ≡ Ok d) × OnlyOne r d

abbrev Refuses : ℕ → Read → Type 0
Refuses reach r =
    (e : Fault) × (r.answer ≡ Err e)
    × (door_row r.channels r.window r.body r.mac ≡ None → (f : Frame) → Lawful f → Fits reach r.channels f r.window → ⊥)

-- ---- a lawful frame's own words

abbrev own_words : Frame → List (List ℕ)
own_words f = map (own_word f) (range_with_len 0 (own_count f))

module _ (f : Frame) (l : Lawful f) where
  back : ReadsAs f (frame_chips f ++ [])
  back = frames_read_back f [] l

  header_passes : header_row (own_header f) ≡ None
  header_passes =
      let h = own_header f in
      let c : check_right h ≡ true = eq-eqb _ 0 (differing_same _ _ back.check) in
      let z : eqb (phy_read h).reserved 0 ≡ true = eq-eqb _ 0 (ap (λ (p : Phy). p.reserved) back.phy) in
      let s : leb (phy_read h).length 2048 ≡ true = le-leb _ 2048 (rw back.phy l.body_short) in
      rw (c, z, s)

  module _ (reach n : ℕ) (w : List ℕ) (p : Fits reach n f w) where
    header_near : Near reach (header_read n w) (own_header f)
    header_near = record { coded = back.header_code; long = length_header_read n w ∙ sym (length_header_word (phy_of f) f.mac l.mac_long); near = p.header }

    words_near : AllZip (Near reach) (words_read f.mode (length f.body) w) (own_words f)
    words_near =
        each_counted (Near reach) (word_read f.mode (length f.body) w) (own_word f) 0 (own_count f)
        (λ k from to. let b : k < own_count f = omega arith in
        record { coded = back.word_code k b; long = length_word_read f.mode (length f.body) w k ∙ sym (length_own_word f k b); near = p.words k b })

-- what fits within eight at most fits within eight
wider : (k n : ℕ) (f : Frame) (w : List ℕ) → k ≤ 8 → Fits k n f w → Fits 8 n f w
wider k n f w few p =
    record { channels = p.channels; long = p.long; codes = p.codes; header = omega (arith, p.header); words = λ i b. omega (arith, p.words i b) }

-- ---- what is delivered

module _ (r : Read) (m : Mode) (h : List ℕ) (vs : List (List ℕ)) (j k : ℕ) (made : Makes r.channels r.window m h vs) (by : Delivered r m h vs (j + k)) where
  abbrev delivery : Delivery
  delivery = let p = phy_read h in record { mode = m; seed = p.seed; aggregation = p.aggregation; length = p.length; mended = j + k }

  same_frame : frame_read r delivery ≡ frame_of m h vs
  same_frame =
      frame_path (frame_read r delivery) (frame_of m h vs) refl refl refl by.mac_filled
      (ap (take (phy_read h).length) by.filled ∙ take_at _ _ (phy_read h).length (ap length made.body ∙ made.body_long) ∙ made.body)

  only : j ≡ differing octets (header_read r.channels r.window) h → k ≡ apart (words_read m (phy_read h).length r.window) vs → OnlyOne r delivery
  only head_count count =
      let n = r.channels in
      let w = r.window in
      record {
        lawful = subst Lawful (sym same_frame) made.lawful;
        fits = subst (λ f. Fits 8 n f w) (sym same_frame) made.fits;
        no_other = λ g l p. one_fits n g (frame_of m h vs) w l made.lawful p made.fits ∙ sym same_frame;
        mended =
            ap₂ ◌+◌ (head_count ∙ ap (differing octets (header_read n w)) (sym made.header)) (count ∙ made.words) ∙ ap (λ f. octets_apart n f w) (sym same_frame);
      }

-- ---- the account, row by row

module _ {M : Type 0} (reach : M → ℕ) (rule : Rule M) (laws : Mends reach rule) (s t : M) (r : Read) (chain : Chain rule s r.asks t) where
  abbrev n : ℕ
  n = r.channels

  abbrev w : List ℕ
  w = r.window

  abbrev Outcome : Type 0
  Outcome = Delivers r ⊎ Refuses (reach s) r

  refuse : (e : Fault) → r.answer ≡ Err e → ((f : Frame) → Lawful f → Fits (reach s) n f w → ⊥) → Outcome
  refuse e answers none = inr (e, answers, λ _. none)

  module _ (chips : Each Bit w) (m : Mode) (told : preamble_row n w ≡ Ok m) (h : List ℕ) (asks : List Asked) where
    abbrev L : ℕ
    L = (phy_read h).length

    module _ (j : ℕ) (mended : Mended reach rule laws s t (header_read n w) (Ok j) h asks) where
      same_mode : (f : Frame) → Fits (reach s) n f w → m ≡ f.mode
      same_mode f p = let e = mode_fits (reach s) n f w p in cc

      same_head : (f : Frame) → Lawful f → Fits (reach s) n f w → h ≡ own_header f
      same_head f l p = (mended.finds (own_header f) (header_near f l (reach s) n w p)).2

      same_length : (f : Frame) → Lawful f → Fits (reach s) n f w → L ≡ length f.body
      same_length f l p = ap (λ x. (phy_read x).length) (same_head f l p) ∙ ap (λ (q : Phy). q.length) (back f l).phy

      by_body : header_row h ≡ None → frame_length m L ≤ length w → (k : Result ℕ Unmended) (vs : List (List ℕ)) → AllMended (reach s) (words_read m L w) k vs
          → ByBody r m h j k vs → Outcome
      by_body row whole (Err u) vs all by =
          refuse _ by.answers λ f l p.
          let near = subst₂ (λ x y. AllZip (Near (reach s)) (words_read x y w) (own_words f)) (sym (same_mode f p)) (sym (same_length f l p)) (words_near f l (reach s) n w p) in
          let z : ◌≡◌ {A = ℕ} 0 1 = cc (all.finds (own_words f) near).1 in omega arith
      by_body row whole (Ok k) vs all by =
          let head = mended.right j refl in
          let each = all.right k refl in
          let made = makes n w m h vs told head.0 row whole each.0 in
          inl (delivery r m h vs j k made by, by.answers, only r m h vs j k made by head.1 each.1)

      by_length : header_row h ≡ None → (b : Bool) → leb (frame_length m L) (length w) ≡ b → ByLength r m h j asks b → Outcome
      by_length row false e by =
          refuse _ by.0.answers λ f l p.
          let fits : frame_length m L ≤ length w = rw (same_mode f p, same_length f l p) p.long in
          both_ways _ e (le-leb (frame_length m L) (length w) fits)
      by_length row true e by =
          let (k, vs, all, rest) = by in
          let words = mended_all reach rule laws (words_read m L w) 1 mended.next t asks k vs [] (words_octets m w chips L) all mended.chain in
          by_body row (leb-true (frame_length m L) (length w) e) k vs (subst (λ x. AllMended x (words_read m L w) k vs) mended.kept words) rest

      by_header : (o : Option HeaderFault) → header_row h ≡ o → ByHeader r m h j asks o → Outcome
      by_header (Some e) row by =
          refuse _ by.0.answers λ f l p. let z : ◌≡◌ {A = ℕ} 0 1 = cc (ap header_row (same_head f l p), header_passes f l) in omega arith
      by_header None row by = by_length row _ refl by

    by_word : (j : Result ℕ WordFault) → Mended reach rule laws s t (header_read n w) j h asks → ByWord r m h asks j → Outcome
    by_word (Err e) mended by =
        refuse _ by.0.answers λ f l p. let z : ◌≡◌ {A = ℕ} 0 1 = cc (mended.finds (own_header f) (header_near f l (reach s) n w p)).1 in omega arith
    by_word (Ok j) mended by = by_header j mended _ refl by

  by_mode : Each Bit w → (o : Result Mode PreambleFault) → preamble_row n w ≡ o → ByMode r o → Outcome
  by_mode chips (Err e) told by = refuse _ by.0.answers λ f l p. let z : ◌≡◌ {A = ℕ} 0 1 = cc (mode_fits (reach s) n f w p) in omega arith
  by_mode chips (Ok m) told by =
      let (j, h, asks, one, rest) = by in
      by_word chips m told h asks j (mended_one reach rule laws s t (header_read n w) (header_octets n w) r.asks j h asks one chain) rest

  by_door : (o : Option DoorFault) → door_row n w r.body r.mac ≡ o → ByDoor r o → Outcome
  by_door (Some e) row by = inr (_, by.0, λ passes f l p. let z : ◌≡◌ {A = ℕ} 0 1 = cc in omega arith)
  by_door None row by = by_mode (door_chips n w r.body r.mac row) _ refl by

  outcome : Accounted r → Outcome
  outcome = by_door _ refl

pub read_right : {M : Type 0} (reach : M → ℕ) (rule : Rule M) → Mends reach rule → (s t : M) (r : Read) → Chain rule s r.asks t → Accounted r → ReadRight (reach s) r
read_right reach rule laws s t r chain a =
    let o = outcome reach rule laws s t r chain a in
    record {
      account = a;
      only_one = λ d q. ⊎_elim
          (λ (x : Delivers r). let same : x.0 ≡ d = cc x.1 in subst (OnlyOne r) same x.2)
          (λ (x : Refuses (reach s) r). let z : ◌≡◌ {A = ℕ} 0 1 = cc x.1 in absurd (omega arith)) o;
      must_deliver = λ door f l p. ⊎_elim
          (λ (x : Delivers r). (x.0, x.1, sym (x.2.no_other f l (wider (reach s) r.channels f r.window (laws.small s) p))))
          (λ (x : Refuses (reach s) r). absurd (x.2 door f l p)) o;
    }
