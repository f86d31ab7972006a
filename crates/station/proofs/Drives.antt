-- Orders one after the other are a run.
use Rattle.std.proofs.Common.{◌≡◌, ℕ, ◌+◌, ◌<◌, ◌≤◌, Bool, true, List, [], ◌∷◌, ◌++◌, map, length, get_or, take, set, Some, sym, refl, ap, ◌∙◌, subst, ap₂, arith}
use Rattle.std.proofs.lemmas.List.{take_all, take_more, take_more_set}
use Rattle.mending.specs.Menders.{Rule}
use Rattle.station.specs.declared.order.Answer.{Answer}
use Rattle.station.specs.declared.order.Order.{Order}
use Rattle.station.specs.declared.order.Order.TheVariants.{Build, Read, Delivered, Refused}
use Rattle.station.specs.declared.station.Station.{Station}
use Rattle.station.specs.Runs.{Call, build, read, ask_mode, ask_refusal, Step, Runs}
use Rattle.station.specs.Orders.{Buffers, Obeyed, Driven, Drives, answer_of}

module _ {M : Type 0} (rule : Rule M) where
  -- one order more
  pub driven_push : (s t u : Station M) (os : List Order) (o : Order) (b c d : Buffers) (log : List Answer) (a : Answer)
      → Driven rule s os b log c t → Obeyed rule t o c a d u → Driven rule s (os ++ (o ∷ [])) b (log ++ (a ∷ [])) d u
  driven_push s t u [] o b c d log a (h) step = (
    a,
    d,
    u,
    [],
    subst (λ (x : Buffers). Obeyed rule s o x a d u) h.1 (subst (λ (x : Station M). Obeyed rule x o c a d u) h.2 step),
    (refl, refl, refl),
    ap (λ l. l ++ (a ∷ [])) h.0,
  )
  driven_push s t u (p ∷ os) o b c d log a h step =
      (h.0, h.1, h.2, h.3 ++ (a ∷ []), h.4, driven_push h.2 t u os o h.1 c d h.3 a h.5 step, ap (λ l. l ++ (a ∷ [])) h.6)

  made : (s u : Station M) (o : Order) (b c : Buffers) (a : Answer) → Obeyed rule s o b a c u → (k : Call) × Step rule s k u × (answer_of k ≡ a)
  made s u (Build mode aggregation) b c a h =
      (build (record { mode = mode; aggregation = aggregation; mac = b.mac; body = b.body; chips = b.chips; answer = h.0; body_after = c.body; chips_after = c.chips }), h.3, sym h.1)
  made s u (Read n) b c a h =
      (read (record { channels = n; window = b.chips; body = b.body; mac = b.mac; asks = h.3.0; answer = h.0; body_after = c.body; mac_after = c.mac }), h.3.1, sym h.1)
  made s u (Delivered number) b c a h = (ask_mode number h.0, h.3, sym h.1)
  made s u (Refused number) b c a h = (ask_refusal number h.0, h.3, sym h.1)

  pub driven_runs : (s t : Station M) (os : List Order) (b c : Buffers) (log : List Answer) → Driven rule s os b log c t
      → (calls : List Call) × Runs rule s calls t × (map answer_of calls ≡ log)
  driven_runs s t [] b c log h = ([], h.2, sym h.0)
  driven_runs s t (o ∷ os) b c log h =
      let k = made s h.2 o b h.1 h.0 h.4 in
      let rest = driven_runs h.2 t os h.1 c h.3 h.5 in
      (k.0 ∷ rest.0, (h.2, k.1, rest.1), ap₂ ◌∷◌ k.2 rest.2 ∙ sym h.6)

  -- the first i orders are done, and then the next one
  pub driven_next : (s t u : Station M) (os : List Order) (i : ℕ) (other : Order) (b c d : Buffers) (log : List Answer) (a : Answer) → i < length os → length log ≡ length os
      → Driven rule s (take i os) b (take i log) c t → Obeyed rule t (get_or os i other) c a d u → Driven rule s (take (i + 1) os) b (take (i + 1) (set log i a)) d u
  driven_next s t u os i other b c d log a lt same h step =
      subst (λ l. Driven rule s l b (take (i + 1) (set log i a)) d u) (sym (take_more os i other lt))
      (subst (λ l. Driven rule s (take i os ++ (get_or os i other ∷ [])) b l d u) (sym (take_more_set log i a (omega arith)))
      (driven_push s t u (take i os) (get_or os i other) b c d (take i log) a h step))

  -- all of them are
  pub driven_all : (s t : Station M) (os : List Order) (i : ℕ) (b c : Buffers) (log : List Answer) → length os ≤ i → length log ≡ length os
      → Driven rule s (take i os) b (take i log) c t → Driven rule s os b log c t
  driven_all s t os i b c log le same h =
      subst (λ l. Driven rule s l b log c t) (take_all i os le) (subst (λ l. Driven rule s (take i os) b l c t) (take_all i log (omega arith)) h)

  pub drives : (s t : Station M) (os : List Order) (b c : Buffers) (before log : List Answer) (k : Bool) → k ≡ true
      → Driven rule s os b log c t → Drives rule k s os b before (Some (length os)) c log t
  drives s t os b c before log k e h = subst (λ x. Drives rule x s os b before (Some (length os)) c log t) (sym e) (refl, h)
