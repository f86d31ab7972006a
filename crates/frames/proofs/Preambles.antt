-- The preamble, code by code.
use Rattle.std.proofs.Common.{◌≡◌, ℕ, zero, suc, ◌+◌, ◌*◌, ◌<◌, Bool, true, false, List, [], ◌∷◌, ◌++◌, length, get_or, take, sym, refl, ap, ◌∙◌, ap₂, add-one}
use Rattle.std.proofs.lemmas.List.{append_assoc, append-nil, take_more}
use Rattle.format.specs.declared.mode.Mode.{Mode}
use Rattle.format.specs.declared.mode.Mode.TheVariants.{M1, M2, M3, M4, M5, M6, M7}
use Rattle.format.specs.Codes.{code_a}
use Rattle.format.specs.Modes.{row}
use Rattle.format.specs.Frame.{signed, all_signed, copies, group, preamble}

-- one copy more behind the others
pub copies_more : (n : ℕ) (xs : List ℕ) → copies n xs ++ xs ≡ copies (n + 1) xs
unfolding copies
copies_more n xs = grown n ∙ sym (ap (λ k. copies k xs) (add-one n))
  where
    grown : (k : ℕ) → copies k xs ++ xs ≡ copies (suc k) xs
    grown zero = sym (append-nil xs)
    grown (suc k) = append_assoc xs (copies k xs) xs ∙ ap (λ l. xs ++ l) (grown k)

all_signed_more : (ss : List Bool) (t : Bool) → all_signed ss ++ signed t ≡ all_signed (ss ++ (t ∷ []))
unfolding all_signed
all_signed_more [] t = sym (append-nil (signed t))
all_signed_more (s ∷ ss) t = append_assoc (signed s) (all_signed ss) (signed t) ∙ ap (λ l. signed s ++ l) (all_signed_more ss t)

-- one code more of a row of signs
pub codes_more : (signs : List Bool) (code : List ℕ) (k : ℕ) → k < length signs → code ≡ signed (get_or signs k false) → all_signed (take k signs) ++ code ≡ all_signed (take (k + 1) signs)
codes_more signs code k h e = ap (λ l. all_signed (take k signs) ++ l) e ∙ all_signed_more (take k signs) _ ∙ ap all_signed (sym (take_more signs k false h))

-- the signs of a group, place by place
signs_listed : (m : Mode) → get_or (row m).minus 0 false ∷ get_or (row m).minus 1 false ∷ get_or (row m).minus 2 false ∷ [] ≡ (row m).minus
signs_listed M1 = refl
signs_listed M2 = refl
signs_listed M3 = refl
signs_listed M4 = refl
signs_listed M5 = refl
signs_listed M6 = refl
signs_listed M7 = refl

-- SYNC, and the groups behind it
pub preamble_done : (m : Mode) (sync groups codes : List ℕ) (signs : List Bool) (a b : ℕ) → signs ≡ (row m).minus → a ≡ 16 * (row m).channels → b ≡ (row m).channels
    → codes ≡ all_signed (true ∷ get_or signs 0 false ∷ get_or signs 1 false ∷ get_or signs 2 false ∷ [])
    → sync ≡ copies a code_a → groups ≡ copies b codes → sync ++ groups ≡ preamble m
unfolding preamble group
preamble_done m sync groups codes signs a b es ea eb ec e f =
    let listed : true ∷ get_or signs 0 false ∷ get_or signs 1 false ∷ get_or signs 2 false ∷ [] ≡ true ∷ (row m).minus =
    ap (λ (l : List Bool). true ∷ get_or l 0 false ∷ get_or l 1 false ∷ get_or l 2 false ∷ []) es ∙ ap (λ l. true ∷ l) (signs_listed m) in
    ap₂ ◌++◌ (e ∙ ap (λ n. copies n code_a) ea) (f ∙ ap₂ copies eb (ec ∙ ap all_signed listed))
