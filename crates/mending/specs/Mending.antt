-- A word and a mender: a codeword stays, any other word goes to the mender once.
use Rattle.std.specs.Prelude.{◌≡◌, ℕ, Bool, true, false, List, length, Some, None, Ok, Err, Option, Result}
use Rattle.words.specs.declared.change.Change.{Change}
use Rattle.words.specs.declared.fault.WordFault.{WordFault}
use Rattle.words.specs.declared.fault.WordFault.TheVariants.{Nothing}
use Rattle.words.specs.Coder.{is_codeword}
use Rattle.words.specs.Changes.{fault_of, mended}
use Rattle.mending.specs.Menders.{Rule}

abbrev pub counted_by : Option WordFault → ℕ → Result ℕ WordFault
counted_by None n = Ok n
counted_by (Some e) n = Err e

-- what a mender's answer to a word comes to: how many octets are mended, or the cause why none is
abbrev pub counted : List ℕ → Option (List Change) → Result ℕ WordFault
counted w None = Err Nothing
counted w (Some cs) = counted_by (fault_of w cs) (length cs)

-- and the word then
abbrev pub settled : List ℕ → Option (List Change) → List ℕ
settled w None = w
settled w (Some cs) = mended w cs

-- by whether the word w is a codeword: it stays and the mender is not asked, or the mender is asked once, and its answer a is judged
abbrev pub MendedBy : {M : Type 0} → Rule M → Bool → M → List ℕ → Result ℕ WordFault → List ℕ → M → Type 0
MendedBy rule true s w r v t = (r ≡ Ok 0) × (v ≡ w) × (t ≡ s)
MendedBy rule false s w r v t = (a : Option (List Change)) × rule s w a t × (r ≡ counted w a) × (v ≡ settled w a)

-- how the mender stands before, the word, the answer, the word then, and how the mender stands afterwards
abbrev pub Mended : {M : Type 0} → Rule M → M → List ℕ → Result ℕ WordFault → List ℕ → M → Type 0
Mended rule s w r v t = MendedBy rule (is_codeword w) s w r v t
