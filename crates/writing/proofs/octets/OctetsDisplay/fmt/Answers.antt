use Rattle.std.proofs.Common.{◌≡◌, ℕ, List, ◌++◌, ap, ◌∙◌, sym, rules}
use Rattle.std.proofs.Output.{has_written_append}
use Rattle.std.proofs.lemmas.List.{append_assoc}
use Rattle.std.specs.Slice.Iter.{chunks_rest}
use Rattle.writing.specs.Octets.{octets_hex}
use Rattle.writing.proofs.Texts.{hex_append}
use Rattle.writing.proofs.octets.OctetsDisplay.fmt.Goals as goal

pub loop-octets-preserved : goal.loop-octets-preserved
loop-octets-preserved g c =
    let steps = c.in-Some.ensures.steps in
    let rest = chunks_rest c.next.new.self in
    let front : octets_hex c.in-Some.octets.now ++ octets_hex rest ≡ octets_hex (chunks_rest c.loop-octets.octets-iterator) =
    sym (hex_append c.in-Some.octets.now rest) ∙ ap octets_hex (sym steps.1.0) in (
      search rules,
      tt,
      steps.0 ∙ c.loop-octets.invariant.2,
      λ plain.
          let so_far = c.loop-octets.invariant.3 plain in (
            so_far.0 ++ octets_hex c.in-Some.octets.now,
            has_written_append _ _ _ _ _ _ so_far.1 (search rules),
            append_assoc so_far.0 _ _ ∙ ap (λ (t : List ℕ). so_far.0 ++ t) front ∙ so_far.2,
          ),
    )
