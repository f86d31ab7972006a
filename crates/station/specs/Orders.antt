-- A list of calls on common buffers, one after the other.
use Rattle.std.specs.Prelude.{◌≡◌, ℕ, Bool, true, false, List, [], ◌∷◌, length, Some, None, Option, Result}
use Rattle.mending.specs.Menders.{Rule}
use Rattle.faults.specs.declared.delivery.Built.{Built}
use Rattle.faults.specs.declared.delivery.Delivery.{Delivery}
use Rattle.faults.specs.declared.fault.Fault.{Fault}
use Rattle.account.specs.Asks.{Asked}
use Rattle.station.specs.declared.order.Answer.{Answer}
use Rattle.station.specs.declared.order.Answer.TheVariants as answer
use Rattle.station.specs.declared.order.Order.{Order}
use Rattle.station.specs.declared.order.Order.TheVariants.{Build, Read, Delivered, Refused}
use Rattle.station.specs.declared.station.Station.{Station}
use Rattle.station.specs.declared.tally.Row.{Row}
use Rattle.station.specs.Runs.{Call, build, read, ask_mode, ask_refusal, Step}

-- the buffers that the calls share
pub record Buffers : Type 0 where
  pub mac : List ℕ
  pub body : List ℕ
  pub chips : List ℕ

-- one order: the call that it makes, with the buffers b before and c after
abbrev pub Obeyed : {M : Type 0} → Rule M → Station M → Order → Buffers → Answer → Buffers → Station M → Type 0
Obeyed rule s (Build mode aggregation) b a c t =
    (r : Result Built Fault) × (a ≡ answer.Built r) × (c.mac ≡ b.mac)
    × Step rule s (build (record { mode = mode; aggregation = aggregation; mac = b.mac; body = b.body; chips = b.chips; answer = r; body_after = c.body; chips_after = c.chips })) t
Obeyed rule s (Read n) b a c t =
    (r : Result Delivery Fault) × (a ≡ answer.Read r) × (c.chips ≡ b.chips)
    × ((asks : List Asked) × Step rule s (read (record { channels = n; window = b.chips; body = b.body; mac = b.mac; asks = asks; answer = r; body_after = c.body; mac_after = c.mac })) t)
Obeyed rule s (Delivered number) b a c t = (r : Option Row) × (a ≡ answer.Delivered r) × (c ≡ b) × Step rule s (ask_mode number r) t
Obeyed rule s (Refused number) b a c t = (r : Option ℕ) × (a ≡ answer.Refused r) × (c ≡ b) × Step rule s (ask_refusal number r) t

-- the orders one after the other, each with its answer in the log
abbrev pub Driven : {M : Type 0} → Rule M → Station M → List Order → Buffers → List Answer → Buffers → Station M → Type 0
Driven rule s [] b log c t = (log ≡ []) × (c ≡ b) × (t ≡ s)
Driven {M} rule s (o ∷ os) b log c t =
    (a : Answer) × (m : Buffers) × (u : Station M) × (rest : List Answer) × Obeyed rule s o b a m u × Driven rule u os m rest c t × (log ≡ a ∷ rest)

-- by whether the log has just as many places as there are orders
abbrev pub Drives : {M : Type 0} → Rule M → Bool → Station M → List Order → Buffers → List Answer → Option ℕ → Buffers → List Answer → Station M → Type 0
Drives rule true s os b before r c log t = (r ≡ Some (length os)) × Driven rule s os b log c t
Drives rule false s os b before r c log t = (r ≡ None) × (c ≡ b) × (log ≡ before) × (t ≡ s)

-- what a call answered
abbrev pub answer_of : Call → Answer
answer_of (build b) = answer.Built b.answer
answer_of (read r) = answer.Read r.answer
answer_of (ask_mode number a) = answer.Delivered a
answer_of (ask_refusal number a) = answer.Refused a
