use Rattle.std.proofs.Common.{◌≡◌, ℕ, ◌<◌, List, replicate, sym, refl, ◌∙◌, arith}
use Rattle.std.specs.Array.{AllOfLen}
use Rattle.std.proofs.lemmas.List.{ext_get_or, length-replicate, get_or-replicate}
use Rattle.account.proofs.ReadClaims.{read_right}
use Rattle.station.specs.declared.station.Station.{Station}
use Rattle.station.specs.declared.tally.Row.{Row}
use Rattle.station.specs.Tallies.{no_row, no_tally}
use Rattle.station.specs.Runs.{Call, Opened, Runs}
use Rattle.station.proofs.Histories.{row_path, runs_law}
use Rattle.station.proofs.ComesBack.{comes_back}
use Rattle.station.proofs.station.Station.open.Goals as goal

-- n of one value
all_one : {A : Type 0} (P : A → Type 0) (x : A) (xs : List A) (n : ℕ) → ((y : A) → P y → y ≡ x) → AllOfLen P xs n → xs ≡ replicate n x
all_one P x xs n one h =
    ext_get_or x xs (replicate n x) (h.long ∙ sym (length-replicate n x)) (λ k lt. let b : k < n = omega (arith, h.long) in one _ (h.at k x b) ∙ sym (get_or-replicate n k x x b))

pub returns : goal.returns
returns g c =
    let reach = g.M.Mender.reach in
    let rule = g.M.Mender.rule in
    let laws = g.met.M.Mender.mends in
    let zero = c.default.ensures in
    let rows = all_one _ no_row c.default.result.rows 7 (λ (y : Row) h. row_path h.0 h.1) zero.0 in
    let refusals = all_one _ 0 c.default.result.refusals 19 (λ (y : ℕ) h. h) zero.1 in
    let none : c.default.result ≡ no_tally = λ i. record { rows = rows i; refusals = refusals i } in
    let is : Opened _ c.args.mender = record { first_seed = refl; no_counts = none; holds = refl } in
    let law = λ (calls : List Call) (last : Station _) (run : Runs rule _ calls last). runs_law reach rule laws.stays (read_right reach rule laws) _ c.args.mender is calls last run in
    record { opened = is; law = law; reads_back = λ calls last run. comes_back rule (reach c.args.mender) c.args.mender calls (law calls last run) }
