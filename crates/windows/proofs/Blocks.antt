-- Where a block lies in a window.
use Rattle.std.proofs.Common.{◌≡◌, ℕ, ◌+◌, ◌-◌, ◌*◌, ◌≤◌, true, List, length, take, sym, ap, ◌∙◌, mul-add, arith}
use Rattle.std.specs.List.{slice_range}
use Rattle.std.proofs.lemmas.Bool.{le-leb, cond-true}
use Rattle.std.proofs.lemmas.List.{take-take, take_rest}
use Rattle.format.specs.declared.mode.Mode.{Mode}
use Rattle.format.specs.Modes.{row}
use Rattle.format.specs.Reading.{block_place, block_chips}
use Rattle.windows.specs.Parts.{block_in, BlockAt}

-- the next block begins where the pilots end
pub block_next : (m : Mode) (b : ℕ) → block_place m (b + 1) ≡ block_place m b + 512 * (row m).spread
block_next m b = omega (arith, mul-add (512 * (row m).spread) b 1)

-- the front of so many chips of those that stand at a block's place
pub block_cut : (m : Mode) (b : ℕ) (w rest block : List ℕ) (place s : ℕ) → place ≡ block_place m b → s ≡ (row m).spread
    → rest ≡ slice_range w place (length w) → length rest + place ≡ length w
    → 512 * s ≤ length rest → block ≡ slice_range rest 0 (512 * s)
    → BlockAt m b w (take (508 * s) block) place
unfolding block_chips
block_cut m b w rest block place s ep es er long h eb =
    let inside : block_in m b w ≡ true = le-leb _ (length w) (omega (arith, block_next m b)) in
    let cut = ap (take (508 * s)) eb ∙ take-take (508 * s) (512 * s - 0) rest (omega arith) ∙ ap (take (508 * s)) (er ∙ take_rest w place) in
    (inside, cut ∙ rw (ep, es) (sym (cond-true _ _ _ inside)), ep)
