use Rattle.std.proofs.Common.{◌≡◌, ◌≤◌, length, ap, ◌∙◌, arith, rules}
use Rattle.std.proofs.lemmas.List.{length-take-le}
use Rattle.std.proofs.lemmas.Option.{MatchOption-at_some}
use Rattle.format.specs.Modes.{mode_of}
use Rattle.format.specs.Header.{header_word}
use Rattle.format.specs.Frame.{frame_length}
use Rattle.format.proofs.Lengths.{length_mixed}
use Rattle.frames.specs.Writing.{sized, frame_of, chips_by}
use Rattle.frames.proofs.Admissions.{sized_fits, roomed_yes}
use Rattle.frames.proofs.WholeFrames.{frame_done, restored}
use Rattle.frames.proofs.writer.write_frame.Goals as goal

pub invariant_of-payload : goal.invariant_of-payload
invariant_of-payload c =
    let long : length c.view.result.now ≡ length c.args.body.now = ap length (c.view.ensures ∙ c.new-guard.ensures.scrambled) ∙ length_mixed _ c.args.body.now in
    rw long record { short = (sized_fits (mode_of c.args.mode) c.in_ok-m.m (length c.args.mac.now) (length c.args.body.now) c.in_ok-m.ensures).1 }

pub write_parts-requires : goal.write_parts-requires
write_parts-requires c =
    let long : length c.view.result.now ≡ length c.args.body.now = ap length (c.view.ensures ∙ c.new-guard.ensures.scrambled) ∙ length_mixed _ c.args.body.now in
    rw long (length-take-le c.frame_length-n.result c.args.chips.now (omega arith) ∙ c.frame_length-n.ensures)

pub returns-clause-chips : goal.returns-clause-chips
returns-clause-chips c =
    let mac = c.args.mac.now in
    let body = c.args.body.now in
    let chips = c.args.chips.now in
    let m = c.in_ok-m.m in
    let f = frame_of m c.args.seed c.args.aggregation mac body in
    let room : frame_length c.in_ok-m.m (length c.args.body.now) ≤ length c.args.chips.now = omega arith in
    let let_in = roomed_yes (sized (mode_of c.args.mode) (length mac) (length body)) m (length body) (length chips) c.in_ok-m.ensures room in
    frame_done f chips c.write_parts.new.chips c.word_of-word.result c.view.result.now c.behind.result.bits c.frame_length-n.result c.frame_length-n.ensures (c.word_of-word.ensures ∙ ap (header_word _) (MatchOption-at_some _ _ _ c.unwrap.ensures c.as_array.ensures.cases).same)
    (c.view.ensures ∙ c.new-guard.ensures.scrambled) (c.behind.ensures ∙ c.new-guard.ensures.behind) c.write_parts.ensures
    ∙ ap (λ a. chips_by a c.args.seed c.args.aggregation mac body chips) let_in

pub returns-then-chips-n-clause-body : goal.returns-then-chips-n-clause-body
returns-then-chips-n-clause-body c =
    let back = restored _ c.new-guard.result.seed c.args.body.now c.new-guard.result.body.now _ c.new-guard.ensures.seed c.new-guard.ensures.scrambled c.drop-guard.ensures in
    search rules

pub returns-clause-body : goal.returns-clause-body
returns-clause-body c =
    let back = restored _ c.new-guard.result.seed c.args.body.now c.new-guard.result.body.now _ c.new-guard.ensures.seed c.new-guard.ensures.scrambled c.drop-guard-2.ensures in
    search rules
