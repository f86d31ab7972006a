-- A whole frame, put together from its parts.
use Rattle.std.proofs.Common.{◌≡◌, ℕ, ◌+◌, ◌*◌, List, ◌++◌, length, drop, sym, ap, ◌∙◌, ap₂}
use borrow.Rule.Slice.PartMut.{put_mid}
use Rattle.format.specs.Modes.{row}
use Rattle.format.specs.Sequences.{after, drawn, mixed, scrambler}
use Rattle.format.specs.Bits.{line}
use Rattle.format.specs.Header.{header_word}
use Rattle.format.specs.Payload.{word_count, block_count, stuff_count, coded, body_octets, payload_bits, blocks}
use Rattle.format.specs.Frame.{Frame, preamble, header_chips, phy_of, frame_chips, frame_length}
use Rattle.format.proofs.Mixing.{after_add}
use Rattle.format.proofs.Scrambling.{mixed_twice}
use Rattle.format.proofs.Lengths.{length_mixed}
use Rattle.frames.specs.Blocks.{carried}

-- what is carried of the scrambled body is the payload's bits
carried_is : (seed r : ℕ) (body view : List ℕ) → view ≡ mixed (after 96 (scrambler seed)) body → r ≡ after (8 * length body) (after 96 (scrambler seed))
    → carried view r ≡ payload_bits seed body
unfolding payload_bits body_octets
carried_is seed r body view ev er =
    let start = after 96 (scrambler seed) in
    ap₂ carried ev (er ∙ sym (after_add 96 (8 * length body) (scrambler seed)))
    ∙ ap (λ n. line (coded (word_count n) (mixed start body)) ++ drawn (stuff_count n) (after (96 + 8 * length body) (scrambler seed))) (length_mixed start body)

-- the parts, of a frame's own word and body, are the frame
pub frame_done : (f : Frame) (d end word view : List ℕ) (r n : ℕ) → n ≡ frame_length f.mode (length f.body)
    → word ≡ header_word (phy_of f) f.mac → view ≡ mixed (after 96 (scrambler f.seed)) f.body → r ≡ after (8 * length f.body) (after 96 (scrambler f.seed))
    → end ≡ preamble f.mode ++ (header_chips word ++ blocks (row f.mode).spread (block_count (length view)) (carried view r))
    → put_mid 0 n d end ≡ frame_chips f ++ drop (frame_length f.mode (length f.body)) d
unfolding frame_chips
frame_done f d end word view r n en ew ev er ee =
    let L = length f.body in
    let m = f.mode in
    let long : length view ≡ length f.body = ap length ev ∙ length_mixed (after 96 (scrambler f.seed)) f.body in
    ap₂ (λ l k. l ++ drop k d) ee en
    ∙ ap₂ (λ w k. (preamble m ++ (header_chips w ++ blocks (row m).spread (block_count k) (carried view r))) ++ drop (frame_length m L) d) ew long
    ∙ ap (λ bs. (preamble m ++ (header_chips (header_word (phy_of f) f.mac) ++ blocks (row m).spread (block_count L) bs)) ++ drop (frame_length m L) d) (carried_is f.seed r f.body view ev er)

-- the sequence once more brings the body back
pub restored : (seed s : ℕ) (body mid end : List ℕ) → s ≡ seed → mid ≡ mixed (after 96 (scrambler seed)) body → end ≡ mixed (after 96 (scrambler s)) mid → end ≡ body
restored seed s body mid end es em ee = ee ∙ ap₂ (λ k l. mixed (after 96 (scrambler k)) l) es em ∙ mixed_twice (after 96 (scrambler seed)) body
