-- A lawful frame's own chips read as the frame, and fit it.
use Rattle.std.proofs.Common.{◌≡◌, ℕ, ◌+◌, ◌^◌, ◌<◌, cond, List, [], ◌∷◌, ◌++◌, length, sym, refl, ap, ◌∙◌, ap₂, arith}
use Rattle.std.proofs.lemmas.List.{length-append}
use Rattle.std.proofs.lemmas.Bool.{eq-eqb}
use Rattle.elements.specs.Octets.{octets}
use Rattle.polynomials.specs.Differences.{differing}
use Rattle.format.specs.Modes.{row}
use Rattle.format.specs.Frame.{Frame, Lawful, phy_of, frame_chips}
use Rattle.format.specs.Fits.{Fits, FramesReadBack}
use Rattle.format.proofs.Lengths.{length_frame_chips}
use Rattle.format.proofs.HeaderBack.{header_codeword, phy_back, mac_back, hcs_back, header_back}
use Rattle.format.proofs.PayloadBack.{word_back, word_codeword, body_back}
use Rattle.format.proofs.CodesApart.{code_back}

pub short_length : (f : Frame) → Lawful f → length f.body < 2 ^ 23
short_length f l = omega (arith, l.body_short)

pub frames_read_back : FramesReadBack
frames_read_back f rest l =
    let h = phy_of f in
    let short = short_length f l in
    record {
      codes = code_back f rest;
      header = header_back f rest l.mac_long l.mac_octets;
      words = word_back f rest l.mac_long l.body_octets;
      header_code = header_codeword h f.mac l.mac_long l.mac_octets;
      word_code = word_codeword f l.body_octets;
      phy = phy_back h f.mac l.mac_long l.seed_fits short (omega arith);
      mac = mac_back h f.mac l.mac_long l.seed_fits short (omega arith);
      check = hcs_back h f.mac l.mac_long l.seed_fits short (omega arith);
      body = body_back f;
    }

pub differing_same : (xs ys : List ℕ) → xs ≡ ys → differing octets xs ys ≡ 0
differing_same xs ys e = ap (differing octets xs) (sym e) ∙ itself xs
  where
    itself : (zs : List ℕ) → differing octets zs zs ≡ 0
    itself [] = refl
    itself (z ∷ zs) = ap₂ (λ t n. cond t 0 1 + n) (eq-eqb z z refl) (itself zs)

-- a frame fits its own chips within any number
pub fits_own : (r : ℕ) (f : Frame) (rest : List ℕ) → Lawful f → Fits r (row f.mode).channels f (frame_chips f ++ rest)
fits_own r f rest l =
    let back = frames_read_back f rest l in
    record {
      channels = refl;
      long = omega (arith, length-append (frame_chips f) rest, length_frame_chips f l.mac_long);
      codes = λ k h. omega (arith, differing_same _ _ (back.codes k h));
      header = omega (arith, differing_same _ _ back.header);
      words = λ k h. omega (arith, differing_same _ _ (back.words k h));
    }
