-- What a read owes to whoever brought the window: only one frame, and delivery within the mender's reach.
use Rattle.std.specs.Prelude.{◌≡◌, ℕ, take, None, Ok}
use Rattle.format.specs.Frame.{Frame, Lawful}
use Rattle.format.specs.Fits.{Fits, octets_apart}
use Rattle.faults.specs.declared.delivery.Delivery.{Delivery}
use Rattle.account.specs.Rows.{door_row}
use Rattle.account.specs.Reads.{Read, Accounted}

-- the frame that a read delivered: its every field is as delivered
abbrev pub frame_read : Read → Delivery → Frame
frame_read r d = record { mode = d.mode; seed = d.seed; aggregation = d.aggregation; mac = r.mac_after; body = take d.length r.body_after }

-- only one: the frame that a read delivers is lawful and fits its window within eight octets a word; no other lawful frame for the channels
-- that the read names does; and the octets mended are those in which window and frame differ
pub record OnlyOne (r : Read) (d : Delivery) : Type 0 where
  pub lawful : Lawful (frame_read r d)
  pub fits : Fits 8 r.channels (frame_read r d) r.window
  pub no_other : (g : Frame) → Lawful g → Fits 8 r.channels g r.window → g ≡ frame_read r d
  pub mended : d.mended ≡ octets_apart r.channels (frame_read r d) r.window

-- must deliver: a read that passes the door, and whose window some lawful frame for the channels that it names fits within the reach, delivers that frame
abbrev pub MustDeliver : ℕ → Read → Type 0
MustDeliver reach r =
    door_row r.channels r.window r.body r.mac ≡ None → (f : Frame) → Lawful f → Fits reach r.channels f r.window
    → (d : Delivery) × (r.answer ≡ Ok d) × (frame_read r d ≡ f)

pub record ReadRight (reach : ℕ) (r : Read) : Type 0 where
  -- the first row that applies turns the read down, and a word is mended as the mender proposes if that is accepted
  pub account : Accounted r
  pub only_one : (d : Delivery) → r.answer ≡ Ok d → OnlyOne r d
  pub must_deliver : MustDeliver reach r
