-- Runs of a station: its calls as steps, one after the other.
use Rattle.std.specs.Prelude.{◌≡◌, ℕ, ◌+◌, ◌%◌, List, [], ◌∷◌, Ok, Err, Option, Result}
use Rattle.mending.specs.Menders.{Rule}
use Rattle.faults.specs.declared.delivery.Built.{Built}
use Rattle.faults.specs.declared.delivery.Delivery.{Delivery}
use Rattle.faults.specs.declared.fault.Fault.{Fault}
use Rattle.station.specs.declared.station.Station.{Station}
use Rattle.station.specs.declared.tally.Row.{Row}
use Rattle.station.specs.declared.tally.Tally.{Tally}
use Rattle.account.specs.Asks.{Chain}
use Rattle.faults.specs.Faults.{fault_refusal}
use Rattle.station.specs.Tallies.{no_tally, delivered, refused, mode_count, refusal_count}
use Rattle.account.specs.Builds.{Build, BuiltAs}
use Rattle.account.specs.Reads.{Read, Accounted}

-- a call with what it brought and what it answered
pub data Call : Type 0 where
  build : Build → Call
  read : Read → Call
  ask_mode : ℕ → Option Row → Call
  ask_refusal : ℕ → Option ℕ → Call

-- a station just opened: seed 0, every count 0
pub record Opened {M : Type 0} (s : Station M) (m : M) : Type 0 where
  pub first_seed : s.seed ≡ 0
  pub no_counts : s.tally ≡ no_tally
  pub holds : s.mender ≡ m

-- the seed and the tally after a build
abbrev pub seed_after : ℕ → Result Built Fault → ℕ
seed_after seed (Ok b) = (seed + 1) % 16
seed_after seed (Err e) = seed

abbrev pub tally_built : Tally → Result Built Fault → Tally
tally_built t (Ok b) = t
tally_built t (Err e) = refused t (fault_refusal e).number

-- the tally after a read
abbrev pub tally_read : Tally → Result Delivery Fault → Tally
tally_read t (Ok d) = delivered t d.mode d.mended
tally_read t (Err e) = refused t (fault_refusal e).number

pub record BuildStep {M : Type 0} (s : Station M) (b : Build) (t : Station M) : Type 0 where
  pub account : BuiltAs s.seed b
  pub seed : t.seed ≡ seed_after s.seed b.answer
  pub tally : t.tally ≡ tally_built s.tally b.answer
  pub mender : t.mender ≡ s.mender

pub record ReadStep {M : Type 0} (rule : Rule M) (s : Station M) (r : Read) (t : Station M) : Type 0 where
  pub account : Accounted r
  pub chain : Chain rule s.mender r.asks t.mender
  pub seed : t.seed ≡ s.seed
  pub tally : t.tally ≡ tally_read s.tally r.answer

-- what each call promises, of how the station stands before and after
abbrev pub Step : {M : Type 0} → Rule M → Station M → Call → Station M → Type 0
Step rule s (build b) t = BuildStep s b t
Step rule s (read r) t = ReadStep rule s r t
Step rule s (ask_mode number a) t = (a ≡ mode_count s.tally number) × (t ≡ s)
Step rule s (ask_refusal number a) t = (a ≡ refusal_count s.tally number) × (t ≡ s)

-- calls one after the other
abbrev pub Runs : {M : Type 0} → Rule M → Station M → List Call → Station M → Type 0
Runs rule s [] u = u ≡ s
Runs {M} rule s (c ∷ cs) u = (t : Station M) × Step rule s c t × Runs rule t cs u
