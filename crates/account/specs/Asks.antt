-- Words and what a mender was asked about them.
use Rattle.std.specs.Prelude.{◌≡◌, ℕ, suc, ◌+◌, Bool, true, false, List, [], ◌∷◌, Ok, Err, Option, Result}
use Rattle.words.specs.declared.change.Change.{Change}
use Rattle.words.specs.declared.fault.WordFault.{WordFault}
use Rattle.words.specs.Coder.{is_codeword}
use Rattle.mending.specs.Menders.{Rule}
use Rattle.mending.specs.Mending.{counted, settled}

-- a word that went to the mender, and what it proposed
pub record Asked : Type 0 where
  pub word : List ℕ
  pub proposal : Option (List Change)

-- the mender's states, chained by its rule through what it was asked
abbrev pub Chain : {M : Type 0} → Rule M → M → List Asked → M → Type 0
Chain rule s [] t = t ≡ s
Chain {M} rule s (a ∷ asks) t = (u : M) × rule s a.word a.proposal u × Chain rule u asks t

-- one word: a codeword stays and nothing is asked; any other is asked about once, and the proposal is judged.
-- r is the count of octets mended or the cause, v the word then, and rest what else was asked
abbrev pub OneBy : Bool → List ℕ → List Asked → Result ℕ WordFault → List ℕ → List Asked → Type 0
OneBy true w asks r v rest = (r ≡ Ok 0) × (v ≡ w) × (asks ≡ rest)
OneBy false w asks r v rest = (a : Option (List Change)) × (asks ≡ record { word = w; proposal = a } ∷ rest) × (r ≡ counted w a) × (v ≡ settled w a)

abbrev pub One : List ℕ → List Asked → Result ℕ WordFault → List ℕ → List Asked → Type 0
One w asks r v rest = OneBy (is_codeword w) w asks r v rest

-- a word that is not mended, with its place
pub record Unmended : Type 0 where
  pub place : ℕ
  pub cause : WordFault

abbrev pub added : ℕ → Result ℕ Unmended → Result ℕ Unmended
added n (Ok m) = Ok (n + m)
added n (Err e) = Err e

-- what follows a word at place k: nothing where it was not mended, else the words behind it, by `next`
abbrev pub After : (List Asked → Result ℕ Unmended → List (List ℕ) → List Asked → Type 0) → Result ℕ WordFault → ℕ → List Asked → Result ℕ Unmended → List ℕ → List (List ℕ) → List Asked → Type 0
After next (Err e) k asks r v vs rest = (r ≡ Err (record { place = k; cause = e })) × (vs ≡ []) × (asks ≡ rest)
After next (Ok n) k asks r v vs rest = (more : Result ℕ Unmended) × (us : List (List ℕ)) × next asks more us rest × (r ≡ added n more) × (vs ≡ v ∷ us)

-- words in line order, the first at place k: each as above, up to the first that is not mended. vs are the words then
abbrev pub Words : ℕ → List (List ℕ) → List Asked → Result ℕ Unmended → List (List ℕ) → List Asked → Type 0
Words k [] asks r vs rest = (r ≡ Ok 0) × (vs ≡ []) × (asks ≡ rest)
Words k (w ∷ ws) asks r vs rest = (one : Result ℕ WordFault) × (v : List ℕ) × (mid : List Asked) × One w asks one v mid × After (Words (suc k) ws) one k mid r v vs rest
