-- Mending one word, as the account of it.
use Rattle.std.proofs.Common.{◌≡◌, ℕ, Bool, true, false, List, [], ◌∷◌, Result, refl, subst}
use Rattle.words.specs.declared.fault.WordFault.{WordFault}
use Rattle.words.specs.Coder.{is_codeword}
use Rattle.mending.specs.Menders.{Rule}
use Rattle.mending.specs.Mending.{MendedBy, Mended}
use Rattle.faults.specs.declared.fault.HeaderFault.{HeaderFault}
use Rattle.account.specs.Asks.{Asked, Chain, OneBy, One}
use Rattle.account.specs.declared.head.Head.{Head}
use Rattle.account.specs.Answers.{header_answer, HeaderAs}

module _ {M : Type 0} (rule : Rule M) where
  one_by : (b : Bool) (s t : M) (w v : List ℕ) (r : Result ℕ WordFault) → MendedBy rule b s w r v t → (asks : List Asked) × Chain rule s asks t × OneBy b w asks r v []
  one_by true s t w v r h = ([], h.2, (h.0, h.1, refl))
  one_by false s t w v r h = (record { word = w; proposal = h.0 } ∷ [], (t, h.1, refl), (h.0, refl, h.2, h.3))

  -- what was asked, if anything
  pub mended_one : (s t : M) (w v : List ℕ) (r : Result ℕ WordFault) → Mended rule s w r v t → (asks : List Asked) × Chain rule s asks t × One w asks r v []
  mended_one s t w v r h = one_by (is_codeword w) s t w v r h

  -- a header word that was mended, if need be, and judged
  pub header_as : (s t : M) (w read v : List ℕ) (n : Result ℕ WordFault) (r : Result Head HeaderFault) → w ≡ read → Mended rule s w n v t → r ≡ header_answer v n → HeaderAs rule s read r t
  header_as s t w read v n r is h e =
      let one = mended_one s t read v n (subst (λ x. Mended rule s x n v t) is h) in
      record { asks = one.0; chain = one.1; count = n; word = v; one = one.2; answers = e }
