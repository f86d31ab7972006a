-- The codes of the first SFD group: where they are read, and that no other mode's are near them.
use Rattle.std.proofs.Common.{◌≡◌, ℕ, zero, suc, ◌+◌, ◌*◌, ◌<◌, ◌≤◌, Bool, true, false, List, [], ◌∷◌, ◌++◌, length, get_or, take, drop, Some, sym, refl, ap, ◌∙◌, subst, ap₂, arith}
use Rattle.std.proofs.lemmas.List.{append_assoc, length-drop, length-take, take_at, drop_at, drop-drop, take-append-le, drop-append-le}
use Rattle.elements.specs.Octets.{octets}
use Rattle.polynomials.specs.Differences.{differing}
use Rattle.coding.proofs.LeastDistance.{octets_swap, octets_triangle}
use Rattle.format.specs.declared.mode.Mode.{Mode}
use Rattle.format.specs.declared.mode.Mode.TheVariants.{M1, M2, M3, M4, M5, M6, M7}
use Rattle.format.specs.Codes.{high_first, code_a, inverted}
use Rattle.format.specs.Modes.{row, mode_by}
use Rattle.format.specs.Header.{header_word}
use Rattle.format.specs.Frame.{Frame, copies, signed, all_signed, group, preamble, header_chips, phy_of, frame_chips}
use Rattle.format.specs.Reading.{code_at}
use Rattle.format.specs.Fits.{own_code}
use Rattle.format.proofs.Lengths.{length_code_a, length_signed, three_signs, length_group, length_copies}
use Rattle.format.proofs.HeaderBack.{payload_of, frame_parts}

-- ---- where the codes are

pub signed_at : (ts : List Bool) (k : ℕ) → k < length ts → take 128 (drop (128 * k) (all_signed ts)) ≡ signed (get_or ts k false)
unfolding all_signed
signed_at [] k h = absurd (omega arith)
signed_at (t ∷ ts) zero h = take_at (signed t) (all_signed ts) 128 (length_signed t)
signed_at (t ∷ ts) (suc k) h =
    ap (take 128)
    (ap (λ i. drop i (signed t ++ all_signed ts)) (let e : 128 * suc k ≡ 128 + 128 * k = omega arith in e)
    ∙ sym (drop-drop (128 * k) 128 (signed t ++ all_signed ts)) ∙ ap (drop (128 * k)) (drop_at (signed t) (all_signed ts) 128 (length_signed t)))
    ∙ signed_at ts k (omega arith)

pub some_channels : (m : Mode) → (n : ℕ) × ((row m).channels ≡ suc n)
some_channels M1 = (0, refl)
some_channels M2 = (1, refl)
some_channels M3 = (1, refl)
some_channels M4 = (2, refl)
some_channels M5 = (2, refl)
some_channels M6 = (3, refl)
some_channels M7 = (3, refl)

-- SYNC, the first group and what follows
preamble_parts : (m : Mode) (rest : List ℕ)
    → preamble m ++ rest ≡ copies (16 * (row m).channels) code_a ++ (group m ++ (copies (some_channels m).0 (group m) ++ rest))
unfolding preamble copies
preamble_parts m rest =
    let n = (some_channels m).0 in
    let sync = copies (16 * (row m).channels) code_a in
    append_assoc sync (copies (row m).channels (group m)) rest
    ∙ ap (λ l. sync ++ (l ++ rest)) (ap (λ c. copies c (group m)) (some_channels m).1)
    ∙ ap (λ l. sync ++ l) (append_assoc (group m) (copies n (group m)) rest)

pub code_back : (f : Frame) (rest : List ℕ) (k : ℕ) → k < 4 → code_at (row f.mode).channels k (frame_chips f ++ rest) ≡ own_code f k
unfolding code_at
code_back f rest k h =
    let m = f.mode in
    let n = (row m).channels in
    let sync = copies (16 * n) code_a in
    let after_it = header_chips (header_word (phy_of f) f.mac) ++ (payload_of f ++ rest) in
    let more = copies (some_channels m).0 (group m) ++ after_it in
    let long : length sync ≡ 2048 * n = length_copies (16 * n) code_a ∙ ap (λ l. 16 * n * l) length_code_a ∙ omega arith in
    let room = length_group m in
    ap (take 128)
    (ap (drop (2048 * n + 128 * k)) (frame_parts f rest ∙ preamble_parts m after_it)
    ∙ sym (drop-drop (128 * k) (2048 * n) (sync ++ (group m ++ more)))
    ∙ ap (drop (128 * k)) (drop_at sync (group m ++ more) (2048 * n) long)
    ∙ drop-append-le (128 * k) (group m) more (omega arith))
    ∙ take-append-le 128 (drop (128 * k) (group m)) more (omega (arith, length-drop (128 * k) (group m)))

-- ---- codes of two modes

pub codes_opposite : differing octets code_a (inverted code_a) ≡ 128
unfolding code_a high_first inverted
codes_opposite = refl

pub signed_apart : (s t : Bool) → differing octets (signed s) (signed t) ≤ 62 → s ≡ t
signed_apart true true h = refl
signed_apart false false h = refl
signed_apart true false h = absurd (omega (arith, octets_swap code_a (inverted code_a), codes_opposite))
signed_apart false true h = absurd (omega (arith, codes_opposite))

-- sign k of SFD1 to SFD4
abbrev pub sign : Mode → ℕ → Bool
sign m k = get_or (true ∷ (row m).minus) k false

pub own_code_is : (f : Frame) (k : ℕ) → k < 4 → own_code f k ≡ signed (sign f.mode k)
unfolding group
own_code_is f k h = signed_at (true ∷ (row f.mode).minus) k (omega (arith, three_signs f.mode))

pub mode_by_signs : (m : Mode) → mode_by (sign m 1) (sign m 2) (sign m 3) ≡ Some m
mode_by_signs M1 = refl
mode_by_signs M2 = refl
mode_by_signs M3 = refl
mode_by_signs M4 = refl
mode_by_signs M5 = refl
mode_by_signs M6 = refl
mode_by_signs M7 = refl

pub mode_by_same : (m l : Mode) → sign m 1 ≡ sign l 1 → sign m 2 ≡ sign l 2 → sign m 3 ≡ sign l 3 → m ≡ l
mode_by_same m l p q r =
    let a = mode_by_signs m in
    let b = mode_by_signs l in
    let c : mode_by (sign m 1) (sign m 2) (sign m 3) ≡ mode_by (sign l 1) (sign l 2) (sign l 3) = cc in
    cc

pub length_own_code : (f : Frame) (k : ℕ) → k < 4 → length (own_code f k) ≡ 128
length_own_code f k h = ap length (own_code_is f k h) ∙ length_signed (sign f.mode k)

pub length_code_at : (n k : ℕ) (w : List ℕ) → k < 4 → 2560 * n ≤ length w → 1 ≤ n → length (code_at n k w) ≡ 128
unfolding code_at
length_code_at n k w h long some = omega (arith, length-take 128 (drop (2048 * n + 128 * k) w), length-drop (2048 * n + 128 * k) w)

-- codes near the same chips have the same sign
pub signs_agree : (f g : Frame) (k : ℕ) (chips : List ℕ) → k < 4 → length chips ≡ 128
    → differing octets chips (own_code f k) ≤ 31 → differing octets chips (own_code g k) ≤ 31 → sign f.mode k ≡ sign g.mode k
signs_agree f g k chips h long near_f near_g =
    let a = length_own_code f k h in
    let b = length_own_code g k h in
    signed_apart (sign f.mode k) (sign g.mode k)
    (subst (λ n. n ≤ 62) (ap₂ (differing octets) (own_code_is f k h) (own_code_is g k h))
    (omega (arith, octets_triangle (own_code f k) chips (own_code g k) (a ∙ sym long) (long ∙ sym b), octets_swap chips (own_code f k))))
