-- The mode that a preamble tells: its codes are near those read, and a frame that fits a window has the mode that is read.
use Rattle.std.proofs.Common.{◌≡◌, ℕ, zero, suc, ◌<◌, ◌≤◌, Bool, cond, List, Some, None, Ok, Option, refl, ◌∙◌, arith}
use Rattle.std.proofs.lemmas.Bool.{eq-eqb, cond-true}
use Rattle.std.proofs.lemmas.Bool.Decides.{nat_tests}
use Rattle.elements.specs.Octets.{octets}
use Rattle.polynomials.specs.Differences.{differing}
use Rattle.format.specs.declared.code.Code.{Code}
use Rattle.format.specs.declared.code.Code.TheVariants.{A, MinusA}
use Rattle.format.specs.declared.mode.Mode.{Mode}
use Rattle.format.specs.declared.mode.Mode.TheVariants.{M1, M2, M3, M4, M5, M6, M7}
use Rattle.format.specs.Modes.{row}
use Rattle.format.specs.Frame.{Frame}
use Rattle.format.specs.Reading.{code_at, read_code}
use Rattle.format.specs.Fits.{own_code, Fits}
use Rattle.format.proofs.CodesApart.{sign, some_channels, own_code_is, length_code_at}
use Rattle.format.proofs.Rebuilt.{signed_read, read_signed}
use Rattle.account.specs.Rows.{sign_of, mode_signed, for_channels, group_row, codes_row, preamble_row}

-- the code of a sign
abbrev code : Bool → Option Code
code s = Some (cond s MinusA A)

-- ---- the codes that tell a mode

channels_told : (n : ℕ) (o : Option Mode) (m : Mode) → for_channels n o ≡ Ok m → (o ≡ Some m) × ((row m).channels ≡ n)
channels_told n None m q = (cc, cc)
channels_told n (Some l) m q = grind (arith, nat_tests)

signs_told : (a b c : Option Bool) (m : Mode) → mode_signed a b c ≡ Some m → (a ≡ Some (sign m 1)) × (b ≡ Some (sign m 2)) × (c ≡ Some (sign m 3))
signs_told a b c m q = grind (arith, nat_tests)

code_told : (c : Code) (s : Bool) → sign_of c ≡ Some s → Some c ≡ code s
code_told c s q = grind (arith, nat_tests)

group_told : (n : ℕ) (b c d e : Code) (m : Mode) → group_row n b c d e ≡ Ok m → (b ≡ MinusA) × (for_channels n (mode_signed (sign_of c) (sign_of d) (sign_of e)) ≡ Ok m)
group_told n b c d e m q = grind (arith, nat_tests)

-- each code that is read is the mode's
told : (n : ℕ) (b c d e : Option Code) (m : Mode) → codes_row n b c d e ≡ Ok m
    → ((row m).channels ≡ n) × (b ≡ code (sign m 0)) × (c ≡ code (sign m 1)) × (d ≡ code (sign m 2)) × (e ≡ code (sign m 3))
told n None c d e m q = (cc, cc, cc, cc, cc)
told n (Some b) None d e m q = (cc, cc, cc, cc, cc)
told n (Some b) (Some c) None e m q = (cc, cc, cc, cc, cc)
told n (Some b) (Some c) (Some d) None m q = (cc, cc, cc, cc, cc)
told n (Some b) (Some c) (Some d) (Some e) m q =
    let (first, g) = group_told n b c d e m q in
    let (is, channels) = channels_told n (mode_signed (sign_of c) (sign_of d) (sign_of e)) m g in
    let (s, t, u) = signs_told (sign_of c) (sign_of d) (sign_of e) m is in
    (channels, cc, code_told c _ s, code_told d _ t, code_told e _ u)

module _ (n : ℕ) (w : List ℕ) (m : Mode) (q : preamble_row n w ≡ Ok m) where
  abbrev read : ℕ → Option Code
  read k = read_code (code_at n k w)

  row_read : ((row m).channels ≡ n) × (read 0 ≡ code (sign m 0)) × (read 1 ≡ code (sign m 1)) × (read 2 ≡ code (sign m 2)) × (read 3 ≡ code (sign m 3))
  row_read = told n (read 0) (read 1) (read 2) (read 3) m q

  pub mode_channels : (row m).channels ≡ n
  mode_channels = row_read.0

  code_read : (k : ℕ) → k < 4 → read_code (code_at n k w) ≡ code (sign m k)
  code_read zero h = row_read.1
  code_read (suc zero) h = row_read.2
  code_read (suc (suc zero)) h = row_read.3
  code_read (suc (suc (suc zero))) h = row_read.4
  code_read (suc (suc (suc (suc k)))) h = absurd (omega arith)

-- the codes of a window are near those of a frame in the mode that is read
pub codes_near : (n : ℕ) (w : List ℕ) (f : Frame) → preamble_row n w ≡ Ok f.mode → (k : ℕ) → k < 4 → differing octets (code_at n k w) (own_code f k) ≤ 31
codes_near n w f q k h = rw (own_code_is f k h) (signed_read (sign f.mode k) (code_at n k w) (code_read n w f.mode q k h))

-- ---- the mode that codes tell

row_told : (n : ℕ) (m : Mode) → codes_row n (code (sign m 0)) (code (sign m 1)) (code (sign m 2)) (code (sign m 3)) ≡ for_channels n (Some m)
row_told n M1 = refl
row_told n M2 = refl
row_told n M3 = refl
row_told n M4 = refl
row_told n M5 = refl
row_told n M6 = refl
row_told n M7 = refl

-- a frame that fits a window has the mode that is read
pub mode_fits : (r n : ℕ) (f : Frame) (w : List ℕ) → Fits r n f w → preamble_row n w ≡ Ok f.mode
mode_fits r n f w p =
    let m = f.mode in
    let some = some_channels m in
    let each = λ (k : ℕ) (h : k < 4). read_signed (sign m k) (code_at n k w)
    (length_code_at n k w h (omega (arith, p.long, p.channels)) (omega (arith, some.1, p.channels)))
    (rw (own_code_is f k h) at (p.codes k h)) in
    rw (each 0 (omega arith), each 1 (omega arith), each 2 (omega arith), each 3 (omega arith)) (row_told n m ∙ cond-true _ _ _ (eq-eqb _ n p.channels))
