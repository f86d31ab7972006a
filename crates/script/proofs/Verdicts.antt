-- What a verdict comes to.
use Rattle.std.proofs.Common.{◌≡◌, ℕ, zero, suc, Bool, true, false, cond, ◌&&◌, eqb, List, length, Some, None, Ok, Err, codes, Result, sym, refl, ap, ◌∙◌, ap₂, arith}
use Rattle.std.specs.Str.{bytes_eq}
use Rattle.std.proofs.lemmas.Slice.Eq.{bytes_eq-Decides}
use Rattle.coding.specs.Codewords.{parity}
use Rattle.words.specs.declared.fault.CoderFault.{CoderFault}
use Rattle.words.specs.declared.fault.CoderFault.TheVariants.{Lengths}
use Rattle.words.specs.declared.fault.Refusal.{Refusal}
use Rattle.words.specs.Coder.{codable}
use Rattle.words.specs.Refusals.{coder_refusal}
use Rattle.buffers.specs.declared.buffers.Buffers.{Buffers}
use Rattle.buffers.specs.declared.buffers.Buffers.TheVariants.{Untouched, Other}
use Rattle.answers.specs.Texts.{named_text, refused_text}
use Rattle.script.specs.Words.{mend_text, encode_text}

pub mended : (n : ℕ) (v : List ℕ) → (n ≡ 0 → ⊥) → named_text (codes "mended") v ≡ mend_text (Ok n) v
mended zero v ne = absurd (ne refl)
mended (suc n) v ne = refl

-- what the coder answers, by whether the lengths are right
abbrev pub coded : Bool → Result (Unit {0}) CoderFault
coded b = cond b (Ok tt) (Err Lengths)

abbrev encode_by : Bool → List ℕ → List ℕ
encode_by b m = cond b (named_text (codes "parity") (parity m)) (refused_text (coder_refusal Lengths) None (Some Untouched))

not_encoded_by : (b : Bool) (f : CoderFault) (m old v : List ℕ) (r : Refusal) (left : Buffers) → Err f ≡ coded b → v ≡ cond b (parity m) old → r ≡ coder_refusal f
    → left ≡ cond (bytes_eq old v) Untouched Other → refused_text r None (Some left) ≡ encode_by b m
not_encoded_by true f m old v r left e p is found = let z : ◌≡◌ {A = ℕ} 0 1 = cc in absurd (omega arith)
not_encoded_by false Lengths m old v r left e p is found =
    let same : bytes_eq old v ≡ true = (bytes_eq-Decides old v).1 (sym p) in
    ap₂ (λ (x : Refusal) (y : Buffers). refused_text x None (Some y)) is (found ∙ ap (λ (t : Bool). cond t Untouched Other) same)

pub not_encoded : (m old v : List ℕ) (fault : CoderFault) (r : Refusal) (left : Buffers) → Err fault ≡ coded (codable m && eqb (length old) 16)
    → v ≡ cond (codable m && eqb (length old) 16) (parity m) old → r ≡ coder_refusal fault → left ≡ cond (bytes_eq old v) Untouched Other
    → refused_text r None (Some left) ≡ encode_text m (length old)
not_encoded m old v fault = not_encoded_by (codable m && eqb (length old) 16) fault m old v
