use Rattle.std.proofs.Common.{◌≡◌, ℕ, List, ◌++◌, map, ap, ◌∙◌, sym, rules}
use Rattle.std.proofs.Output.{has_written_append}
use Rattle.std.proofs.lemmas.List.{append_assoc, map-append}
use Rattle.std.specs.Slice.Iter.{chunks_rest}
use Rattle.writing.specs.Chips.{chip_char}
use Rattle.writing.proofs.chips.ChipsDisplay.fmt.Goals as goal

pub loop-chips-preserved : goal.loop-chips-preserved
loop-chips-preserved g c =
    let steps = c.in-Some.ensures.steps in
    let rest = chunks_rest c.next.new.self in
    let front : map chip_char c.in-Some.chips.now ++ map chip_char rest ≡ map chip_char (chunks_rest c.loop-chips.chips-iterator) =
    sym (map-append chip_char c.in-Some.chips.now rest) ∙ ap (map chip_char) (sym steps.1.0) in (
      search rules,
      tt,
      steps.0 ∙ c.loop-chips.invariant.2,
      λ plain.
          let so_far = c.loop-chips.invariant.3 plain in (
            so_far.0 ++ map chip_char c.in-Some.chips.now,
            has_written_append _ _ _ _ _ _ so_far.1 (search rules),
            append_assoc so_far.0 _ _ ∙ ap (λ (t : List ℕ). so_far.0 ++ t) front ∙ so_far.2,
          ),
    )
