-- The law of a station holds of every run, and runs join.
use Rattle.std.proofs.Common.{◌≡◌, ℕ, ◌+◌, ◌-◌, ◌%◌, ◌<◌, ◌≤◌, min, Bool, true, false, cond, ◌&&◌, eqb, leb, List, [], ◌∷◌, ◌++◌, length, get_or, set, replicate, Some, None, Ok, Err, Option, Result, sym, refl, ap, ◌∙◌, ⊎_elim, append_assoc, append-nil, arith, length-set, get_or-set_other, get_or-set_same}
use Rattle.std.proofs.lemmas.List.{length-replicate, get_or-replicate}
use Rattle.std.proofs.lemmas.Bool.{cases_eq, eq-eqb, ne_eqb, and_parts, leb-true}
use Rattle.words.specs.declared.change.Change.{Change}
use Rattle.mending.specs.Menders.{Rule}
use Rattle.format.specs.declared.mode.Mode.{Mode}
use Rattle.format.specs.declared.mode.Mode.TheVariants.{M1, M2, M3, M4, M5, M6, M7}
use Rattle.format.specs.declared.fault.DoorFault.{DoorFault}
use Rattle.format.specs.declared.fault.DoorFault.TheVariants as door
use Rattle.format.specs.Refusals.{door_refusal}
use Rattle.format.specs.Modes.{row}
use Rattle.faults.specs.declared.delivery.Built.{Built}
use Rattle.faults.specs.declared.delivery.Delivery.{Delivery}
use Rattle.faults.specs.declared.fault.Fault.{Fault}
use Rattle.faults.specs.declared.fault.Fault.TheVariants as fault
use Rattle.faults.specs.declared.fault.PreambleFault.{PreambleFault}
use Rattle.faults.specs.declared.fault.PreambleFault.TheVariants as preamble
use Rattle.faults.specs.declared.fault.HeaderFault.{HeaderFault}
use Rattle.faults.specs.declared.fault.HeaderFault.TheVariants as header
use Rattle.faults.specs.declared.fault.PayloadFault.{PayloadFault}
use Rattle.faults.specs.declared.fault.PayloadFault.TheVariants as payload
use Rattle.account.specs.Asks.{Asked, Chain}
use Rattle.faults.specs.Faults.{preamble_refusal, header_refusal, payload_refusal, fault_refusal}
use Rattle.account.specs.Builds.{Build}
use Rattle.account.specs.Reads.{Read, Accounted}
use Rattle.account.specs.Claims.{OnlyOne, ReadRight}
use Rattle.account.proofs.WordRuns.{chain_append}
use Rattle.station.specs.declared.station.Station.{Station}
use Rattle.station.specs.declared.tally.Row.{Row}
use Rattle.station.specs.declared.tally.Tally.{Tally}
use Rattle.station.specs.Tallies.{most, no_row, delivered, refused}
use Rattle.station.specs.Runs.{Call, build, read, ask_mode, ask_refusal, Opened, seed_after, tally_built, tally_read, Step, Runs}
use Rattle.station.specs.Law.{accepted, builds, window_of, octets_of, windows, octets, turned, refusals, all_asks, Right, Law}

-- what one call more adds to the counts
abbrev Pushed : ℕ → List Call → Call → Type 0
Pushed n past c =
    (builds (past ++ (c ∷ [])) ≡ builds past + builds (c ∷ [])) × (windows n (past ++ (c ∷ [])) ≡ windows n past + windows n (c ∷ []))
    × (octets n (past ++ (c ∷ [])) ≡ octets n past + octets n (c ∷ [])) × (refusals n (past ++ (c ∷ [])) ≡ refusals n past + refusals n (c ∷ []))

pushed : (n : ℕ) (past : List Call) (c : Call) → Pushed n past c
pushed n [] c = (omega arith, omega arith, omega arith, omega arith)
pushed n (build b ∷ past) c = let h = pushed n past c in (omega arith, h.1, h.2, omega arith)
pushed n (read r ∷ past) c = let h = pushed n past c in (h.0, omega arith, omega arith, omega arith)
pushed n (ask_mode k a ∷ past) c = pushed n past c
pushed n (ask_refusal k a ∷ past) c = pushed n past c

asks_pushed : (past : List Call) (c : Call) → all_asks (past ++ (c ∷ [])) ≡ all_asks past ++ all_asks (c ∷ [])
asks_pushed [] c = refl
asks_pushed (build b ∷ past) c = asks_pushed past c
asks_pushed (read r ∷ past) c = ap (λ asks. r.asks ++ asks) (asks_pushed past c) ∙ sym (append_assoc r.asks (all_asks past) (all_asks (c ∷ [])))
asks_pushed (ask_mode k a ∷ past) c = asks_pushed past c
asks_pushed (ask_refusal k a ∷ past) c = asks_pushed past c

-- a number from 1 to top
abbrev Within : ℕ → ℕ → Type 0
Within top n = (leb 1 n && leb n top) ≡ true

pub within : (top n : ℕ) → Within top n → (1 ≤ n) × (n ≤ top)
within top n is = let parts = and_parts (leb 1 n) (leb n top) is in (leb-true 1 n parts.0, leb-true n top parts.1)

-- the list holds, for each such number, what f says
record Holds {A : Type 0} (xs : List A) (d : A) (top : ℕ) (f : ℕ → A) : Type 0 where
  pub long : length xs ≡ top
  pub each : (n : ℕ) → Within top n → get_or xs (n - 1) d ≡ f n

none : {A : Type 0} (top : ℕ) (d : A) → Holds (replicate top d) d top (λ n. d)
none top d = record { long = length-replicate top d; each = λ n is. let low = within top n is in get_or-replicate top (n - 1) d d (omega arith) }

kept : {A : Type 0} {xs : List A} {d : A} {top : ℕ} {f g : ℕ → A} → Holds xs d top f → ((n : ℕ) → f n ≡ g n) → Holds xs d top g
kept h same = record { long = h.long; each = λ n is. h.each n is ∙ same n }

placed : {A : Type 0} {xs : List A} {d : A} {top : ℕ} {f g : ℕ → A} (k : ℕ) (v : A) → Holds xs d top f → Within top k → v ≡ g k → ((n : ℕ) → (k ≡ n → ⊥) → f n ≡ g n) → Holds (set xs (k - 1) v) d top g
placed {xs = xs} {d = d} {top = top} {g = g} k v h is here there =
    record {
      long = length-set xs (k - 1) v ∙ h.long;
      each = λ n is'. let low = within top k is in let low' = within top n is' in ⊎_elim
          (λ (eq : k ≡ n). let inside : n - 1 < length xs = omega arith in rw (eq, get_or-set_same xs (n - 1) v d inside) (here ∙ ap g eq))
          (λ (differ : k ≡ n → ⊥). get_or-set_other xs (k - 1) (n - 1) v d (λ e. differ (omega arith)) ∙ (h.each n is' ∙ there n differ))
          (cases_eq k n);
    }

-- the numbers of modes and of refusals
mode_number : (m : Mode) → Within 7 (row m).number
mode_number = elim [ M1 ↦ refl | M2 ↦ refl | M3 ↦ refl | M4 ↦ refl | M5 ↦ refl | M6 ↦ refl | M7 ↦ refl ]

door_number : (e : DoorFault) → Within 19 (door_refusal e).number
door_number = elim [ door.Mode ↦ refl | door.Mac ↦ refl | door.Body ↦ refl | door.Room ↦ refl | door.Channels ↦ refl | door.Buffers ↦ refl | door.Window ↦ refl | door.Chip p ↦ refl ]

preamble_number : (e : PreambleFault) → Within 19 (preamble_refusal e).number
preamble_number = elim [ preamble.Unreadable code ↦ refl | preamble.Unsigned ↦ refl | preamble.Estimation ↦ refl | preamble.NoMode ↦ refl | preamble.Channels ↦ refl ]

header_number : (e : HeaderFault) → Within 19 (header_refusal e).number
header_number = elim [ header.Word e ↦ refl | header.Check ↦ refl | header.Reserved ↦ refl | header.Length ↦ refl ]

payload_number : (e : PayloadFault) → Within 19 (payload_refusal e).number
payload_number = elim [ payload.Ends ↦ refl | payload.Word place e ↦ refl ]

pub fault_number : (e : Fault) → Within 19 (fault_refusal e).number
fault_number = elim [ fault.Door e ↦ door_number e | fault.Preamble e ↦ preamble_number e | fault.Header e ↦ header_number e | fault.Payload e ↦ payload_number e ]

-- the rows and the counts that the calls of the past call for
abbrev row_of : List Call → ℕ → Row
row_of past n = record { windows = min (windows n past) most; octets = min (octets n past) most }

abbrev count_of : List Call → ℕ → ℕ
count_of past n = min (refusals n past) most

record TallyAt (past : List Call) (t : Tally) : Type 0 where
  pub rows_at : Holds t.rows no_row 7 (row_of past)
  pub counts_at : Holds t.refusals 0 19 (count_of past)

pub row_path : {x y : Row} → x.windows ≡ y.windows → x.octets ≡ y.octets → x ≡ y
row_path p q = λ i. record { windows = p i; octets = q i }

-- v for the number k, 0 for another
abbrev only : ℕ → ℕ → ℕ → ℕ
only k v n = cond (eqb k n) v 0

only_here : (k v : ℕ) → only k v k ≡ v
only_here k v = rw (eq-eqb k k refl)

only_other : (k v n : ℕ) → (k ≡ n → ⊥) → only k v n ≡ 0
only_other k v n differ = rw (ne_eqb k n differ)

-- what a call adds to each number's counts
abbrev Adds : Call → (ℕ → ℕ) → (ℕ → ℕ) → (ℕ → ℕ) → Type 0
Adds c w o f = (n : ℕ) → (windows n (c ∷ []) ≡ w n) × (octets n (c ∷ []) ≡ o n) × (refusals n (c ∷ []) ≡ f n)

module _ (past : List Call) (c : Call) (t : Tally) (before : TallyAt past t) where
  same_row : (n : ℕ) → windows n (c ∷ []) ≡ 0 → octets n (c ∷ []) ≡ 0 → row_of past n ≡ row_of (past ++ (c ∷ [])) n
  same_row n no_window no_octet = let p = pushed n past c in row_path (omega arith) (omega arith)

  same_count : (n : ℕ) → refusals n (c ∷ []) ≡ 0 → count_of past n ≡ count_of (past ++ (c ∷ [])) n
  same_count n no_refusal = let p = pushed n past c in omega arith

  quiet : Adds c (λ n. 0) (λ n. 0) (λ n. 0) → TallyAt (past ++ (c ∷ [])) t
  quiet adds =
      record {
        rows_at = kept before.rows_at (λ n. same_row n (adds n).0 (adds n).1);
        counts_at = kept before.counts_at (λ n. same_count n (adds n).2);
      }

  turns : (k : ℕ) → Within 19 k → Adds c (λ n. 0) (λ n. 0) (only k 1) → TallyAt (past ++ (c ∷ [])) (refused t k)
  turns k is adds =
      record {
        rows_at = kept before.rows_at (λ n. same_row n (adds n).0 (adds n).1);
        counts_at =
            placed k _ before.counts_at is
            (let a = adds k in let h = only_here k 1 in let p = pushed k past c in omega (arith, before.counts_at.each k is))
            (λ n differ. same_count n ((adds n).2 ∙ only_other k 1 n differ));
      }

  delivers : (m : Mode) (o : ℕ) → Adds c (only (row m).number 1) (only (row m).number o) (λ n. 0) → TallyAt (past ++ (c ∷ [])) (delivered t m o)
  delivers m o adds =
      let k = (row m).number in
      record {
        rows_at =
            placed k _ before.rows_at (mode_number m)
            (let a = adds k in let h = only_here k 1 in let h' = only_here k o in let p = pushed k past c in let e = before.rows_at.each k (mode_number m) in
            row_path (omega (arith, ap (λ (x : Row). x.windows) e)) (omega (arith, ap (λ (x : Row). x.octets) e)))
            (λ n differ. same_row n ((adds n).0 ∙ only_other k 1 n differ) ((adds n).1 ∙ only_other k o n differ));
        counts_at = kept before.counts_at (λ n. same_count n (adds n).2);
      }

-- the seed and the tally after a call, by its answer
built_seed : (past : List Call) (b : Build) (a : Result Built Fault) → b.answer ≡ a → (seed : ℕ) → seed ≡ builds past % 16 → seed_after seed a ≡ builds (past ++ (build b ∷ [])) % 16
built_seed past b (Ok x) is seed at = let p = pushed 0 past (build b) in let h = ap accepted is in omega arith
built_seed past b (Err e) is seed at = let p = pushed 0 past (build b) in let h = ap accepted is in omega arith

built_tally : (past : List Call) (b : Build) (t : Tally) → TallyAt past t → (a : Result Built Fault) → b.answer ≡ a → TallyAt (past ++ (build b ∷ [])) (tally_built t a)
built_tally past b t before (Ok x) is = quiet past (build b) t before (λ n. (refl, refl, let h = ap (turned n) is in omega arith))
built_tally past b t before (Err e) is = turns past (build b) t before (fault_refusal e).number (fault_number e) (λ n. (refl, refl, let h = ap (turned n) is in omega arith))

read_tally : (past : List Call) (r : Read) (t : Tally) → TallyAt past t → ((d : Delivery) → r.answer ≡ Ok d → OnlyOne r d) → (a : Result Delivery Fault) → r.answer ≡ a → TallyAt (past ++ (read r ∷ [])) (tally_read t a)
read_tally past r t before one (Ok d) is =
    delivers past (read r) t before d.mode d.mended
    (λ n. let w = ap (window_of n) is in let o = ap (octets_of n r) is in let f = ap (turned n) is in (omega arith, rw (one d is).mended (omega arith), omega arith))
read_tally past r t before one (Err e) is =
    turns past (read r) t before (fault_refusal e).number (fault_number e)
    (λ n. let w = ap (window_of n) is in let o = ap (octets_of n r) is in let f = ap (turned n) is in (omega arith, omega arith, omega arith))

some_same : {A : Type 0} (b : Bool) {x y : A} → (b ≡ true → x ≡ y) → cond b (Some x) None ≡ cond b (Some y) None
some_same true same = ap Some (same refl)
some_same false same = refl

-- how a station stands after the calls of the past
record At {M : Type 0} (rule : Rule M) (m : M) (past : List Call) (s : Station M) : Type 0 where
  pub seed_at : s.seed ≡ builds past % 16
  pub tally_at : TallyAt past s.tally
  pub chain_at : Chain rule m (all_asks past) s.mender

module _ {M : Type 0} (rule : Rule M) where
  -- runs one after the other
  pub runs_join : (s t u : Station M) (xs ys : List Call) → Runs rule s xs t → Runs rule t ys u → Runs rule s (xs ++ ys) u
  runs_join s t u [] ys first second = rw first at second
  runs_join s t u (c ∷ xs) ys first second = (first.0, first.1, runs_join first.0 t u xs ys first.2 second)

  -- one call more
  pub runs_push : (s t u : Station M) (calls : List Call) (c : Call) → Runs rule s calls t → Step rule t c u → Runs rule s (calls ++ (c ∷ [])) u
  runs_push s t u calls c run step = runs_join s t u calls (c ∷ []) run (u, step, refl)

  -- a run cut at a call
  cut : (s u : Station M) (past : List Call) (c : Call) (rest : List Call) → Runs rule s (past ++ (c ∷ rest)) u → (p : Station M) × (q : Station M) × Runs rule s past p × Step rule p c q
  cut s u [] c rest run = (s, run.0, refl, run.1)
  cut s u (d ∷ past) c rest run = let k = cut run.0 u past c rest run.2 in (k.0, k.1, (run.0, run.1, k.2), k.3)

  start : (s : Station M) (m : M) → Opened s m → At rule m [] s
  start s m is =
      record {
        seed_at = is.first_seed;
        tally_at = rw is.no_counts record { rows_at = none 7 no_row; counts_at = none 19 0 };
        chain_at = is.holds;
      }

  next : {m : M} {past : List Call} {s : Station M} (t : Station M) (c : Call) → At rule m past s → t.seed ≡ builds (past ++ (c ∷ [])) % 16 → TallyAt (past ++ (c ∷ [])) t.tally → Chain rule s.mender (all_asks (c ∷ [])) t.mender → At rule m (past ++ (c ∷ [])) t
  next {m} {past} {s} t c at seed tally chain =
      record {
        seed_at = seed;
        tally_at = tally;
        chain_at = rw (asks_pushed past c) (chain_append rule m s.mender t.mender (all_asks past) (all_asks (c ∷ [])) at.chain_at chain);
      }

  -- a call that counts nothing and leaves the station
  idle : {m : M} {past : List Call} {s : Station M} (t : Station M) (c : Call) → At rule m past s → builds (c ∷ []) ≡ 0 → Adds c (λ n. 0) (λ n. 0) (λ n. 0) → all_asks (c ∷ []) ≡ [] → t ≡ s → At rule m (past ++ (c ∷ [])) t
  idle {m} {past} {s} t c at no_build adds no_asks is =
      rw is (next s c at (let p = pushed 0 past c in omega (arith, at.seed_at)) (quiet past c s.tally at.tally_at adds) (rw no_asks refl))

module _ {M : Type 0} (reach : M → ℕ) (rule : Rule M)
    (stays : (s : M) (w : List ℕ) (a : Option (List Change)) (t : M) → rule s w a t → reach t ≡ reach s)
    (read_right : (s t : M) (r : Read) → Chain rule s r.asks t → Accounted r → ReadRight (reach s) r) where
  -- no call changes the reach
  chain_stays : (asks : List Asked) (s t : M) → Chain rule s asks t → reach t ≡ reach s
  chain_stays [] s t chain = ap reach chain
  chain_stays (a ∷ asks) s t chain = chain_stays asks chain.0 t chain.2 ∙ stays s a.word a.proposal chain.0 chain.1

  at_step : (m : M) (past : List Call) (s t : Station M) (c : Call) → At rule m past s → Step rule s c t → At rule m (past ++ (c ∷ [])) t
  at_step m past s t (build b) at step =
      next rule t (build b) at
      (step.seed ∙ built_seed past b b.answer refl s.seed at.seed_at)
      (rw step.tally (built_tally past b s.tally at.tally_at b.answer refl))
      step.mender
  at_step m past s t (read r) at step =
      next rule t (read r) at
      (let p = pushed 0 past (read r) in omega (arith, at.seed_at, step.seed))
      (rw step.tally (read_tally past r s.tally at.tally_at (read_right s.mender t.mender r step.chain step.account).only_one r.answer refl))
      (rw append-nil step.chain)
  at_step m past s t (ask_mode n a) at step = idle rule t (ask_mode n a) at refl (λ k. (refl, refl, refl)) refl step.1
  at_step m past s t (ask_refusal n a) at step = idle rule t (ask_refusal n a) at refl (λ k. (refl, refl, refl)) refl step.1

  at_runs : (m : M) (past : List Call) (s u : Station M) (calls : List Call) → At rule m past s → Runs rule s calls u → At rule m (past ++ calls) u
  at_runs m past s u [] at run = rw (append-nil, run) at
  at_runs m past s u (c ∷ calls) at run = rw append_assoc at (at_runs m (past ++ (c ∷ [])) run.0 u calls (at_step m past s run.0 c at run.1) run.2)

  right : (m : M) (past : List Call) (s t : Station M) (c : Call) → At rule m past s → Step rule s c t → Right (reach m) past c
  right m past s t (build b) at step = rw at.seed_at at step.account
  right m past s t (read r) at step = rw (chain_stays (all_asks past) m s.mender at.chain_at) at (read_right s.mender t.mender r step.chain step.account)
  right m past s t (ask_mode n a) at step = step.0 ∙ some_same (leb 1 n && leb n 7) (at.tally_at.rows_at.each n)
  right m past s t (ask_refusal n a) at step = step.0 ∙ some_same (leb 1 n && leb n 19) (at.tally_at.counts_at.each n)

  pub runs_law : (s : Station M) (m : M) → Opened s m → (calls : List Call) (u : Station M) → Runs rule s calls u → Law rule (reach m) m calls
  runs_law s m is calls u run =
      record {
        right = λ past c rest split. let k = cut rule s u past c rest (rw split at run) in right m past k.0 k.1 c (at_runs m [] s k.0 past (start rule s m is) k.2) k.3;
        last = u.mender;
        chained = (at_runs m [] s u calls (start rule s m is) run).chain_at;
      }
