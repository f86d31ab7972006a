-- A first word that is no text names no call.
use Rattle.std.proofs.Common.{◌≡◌, Bool, true, false, ℕ, List, Err, codes, sym, refl, ◌∙◌, subst}
use Rattle.std.specs.Str.{IsUtf8, bytes_eq}
use Rattle.std.proofs.lemmas.Slice.Eq.{bytes_eq-Decides}
use Rattle.lines.specs.declared.wrong.Wrong.TheVariants.{Call as no_call}
use Rattle.calls.specs.Said.{word_at}
use Rattle.calls.specs.Calls.{call_said}

differs : (w n : List ℕ) (b : Bool) → (b ≡ true → w ≡ n) → ¬ (IsUtf8 w) → IsUtf8 n → b ≡ false
differs w n true same bad text = absurd (bad (subst IsUtf8 (sym (same refl)) text))
differs w n false same bad text = refl

pub nameless : (t w : List ℕ) → w ≡ word_at t 0 → ¬ (IsUtf8 w) → call_said t ≡ Err no_call
unfolding lib.Utf8.encode
nameless t w is bad =
    let other : (n : List ℕ) → IsUtf8 n → bytes_eq (word_at t 0) n ≡ false =
    λ n text. differs w n (bytes_eq (word_at t 0) n) (λ e. is ∙ (bytes_eq-Decides (word_at t 0) n).0 e) bad text in
    rw (
      other _ (codes "header", (refl, refl)),
      other _ (codes "block", (refl, refl)),
      other _ (codes "encode", (refl, refl)),
      other _ (codes "accept", (refl, refl)),
      other _ (codes "codeword", (refl, refl)),
      other _ (codes "hcs", (refl, refl)),
      other _ (codes "propose", (refl, refl)),
      other _ (codes "mend", (refl, refl)),
      other _ (codes "build", (refl, refl)),
      other _ (codes "read", (refl, refl)),
      other _ (codes "open", (refl, refl)),
      other _ (codes "mode", (refl, refl)),
      other _ (codes "refusal", (refl, refl)),
    )
