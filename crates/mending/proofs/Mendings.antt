-- What a word and a mender come to, from the steps of mending it.
use Rattle.std.proofs.Common.{◌≡◌, ℕ, ◌≤◌, false, List, length, take, Some, None, Ok, Err, Option, Result, sym, refl, ap, ◌∙◌, subst, arith}
use Rattle.std.proofs.lemmas.List.{length-take-le}
use Rattle.words.specs.declared.change.Change.{Change}
use Rattle.words.specs.declared.fault.WordFault.{WordFault}
use Rattle.words.specs.Coder.{is_codeword}
use Rattle.words.specs.Changes.{fault_of, verdict, mended}
use Rattle.mending.specs.Menders.{Rule}
use Rattle.mending.specs.Mending.{counted_by, MendedBy, Mended}

counts : (o : Option WordFault) (n : ℕ) → verdict o ≡ Ok tt → counted_by o n ≡ Ok n
counts None n e = refl
counts (Some f) n e = let z : ◌≡◌ {A = ℕ} 0 1 = cc in absurd (omega arith)

blames : (o : Option WordFault) (n : ℕ) (f : WordFault) → verdict o ≡ Err f → counted_by o n ≡ Err f
blames None n f e = let z : ◌≡◌ {A = ℕ} 0 1 = cc in absurd (omega arith)
blames (Some g) n f e = cc

module _ {M : Type 0} (rule : Rule M) (s t : M) (w v : List ℕ) (out : List Change) (n : ℕ) (no : is_codeword w ≡ false) (asked : rule s w (Some (take n out)) t)
    (made : v ≡ mended w (take n out)) where
  judged : (r : Result ℕ WordFault) → counted_by (fault_of w (take n out)) (length (take n out)) ≡ r → Mended rule s w r v t
  judged r e =
      subst (λ b. MendedBy rule b s w r v t) (sym no)
      (Some (take n out), asked, sym e, made)

  pub mends : n ≤ length out → verdict (fault_of w (take n out)) ≡ Ok tt → Mended rule s w (Ok n) v t
  mends long e = judged (Ok n) (counts (fault_of w (take n out)) (length (take n out)) e ∙ ap Ok (length-take-le n out long))

  pub refuses : (f : WordFault) → verdict (fault_of w (take n out)) ≡ Err f → Mended rule s w (Err f) v t
  refuses f e = judged (Err f) (blames (fault_of w (take n out)) (length (take n out)) f e)
