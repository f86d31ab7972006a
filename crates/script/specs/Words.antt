-- What the calls on words answer.
use Rattle.std.specs.Prelude.{◌≡◌, ℕ, zero, suc, cond, ◌&&◌, List, ◌++◌, Some, None, Ok, Err, codes, decimal, Option, Result, ◌==◌}
use Rattle.coding.specs.Codewords.{parity}
use Rattle.words.specs.declared.change.Change.{Change}
use Rattle.words.specs.declared.fault.CoderFault.TheVariants.{Lengths}
use Rattle.words.specs.declared.fault.WordFault.{WordFault}
use Rattle.words.specs.Coder.{codable, is_codeword}
use Rattle.words.specs.Changes.{changed, fault_of}
use Rattle.mending.specs.Menders.{Rule}
use Rattle.mending.specs.Mending.{Mended}
use Rattle.words.specs.Refusals.{coder_refusal, cause_of}
use Rattle.format.specs.Header.{hcs}
use Rattle.chosen.specs.Leaves.{LeafRule}
use Rattle.chosen.specs.Piles.{PileRule}
use Rattle.calls.specs.Calls.{Mending}
use Rattle.buffers.specs.declared.buffers.Buffers.TheVariants.{Untouched}
use Rattle.answers.specs.Texts.{named_text, refused_text, proposed_text}

-- a message, and how many octets the parity buffer has
abbrev pub encode_text : List ℕ → ℕ → List ℕ
encode_text m room = cond (codable m && room == 16) (named_text (codes "parity") (parity m)) (refused_text (coder_refusal Lengths) None (Some Untouched))

abbrev pub codeword_text : List ℕ → List ℕ
codeword_text w = cond (is_codeword w) (codes "yes") (codes "no")

abbrev pub hcs_text : List ℕ → List ℕ
hcs_text os = named_text (codes "hcs") (hcs os)

abbrev pub unmended_text : WordFault → List ℕ
unmended_text e = codes "unmended cause=" ++ decimal (cause_of e)

-- by the first test that the changes fail
abbrev pub by_fault : Option WordFault → List ℕ → List Change → List ℕ
by_fault None w cs = named_text (codes "accepted") (changed w cs)
by_fault (Some e) w cs = unmended_text e

abbrev pub accept_text : List ℕ → List Change → List ℕ
accept_text w cs = by_fault (fault_of w cs) w cs

-- the rule of a mender that is named in a line
abbrev pub mending_rule : Rule Mending
mending_rule = PileRule (PileRule (PileRule LeafRule))

abbrev pub proposal_text : Option (List Change) → List ℕ
proposal_text None = codes "nothing"
proposal_text (Some cs) = proposed_text cs

-- the mender answers by its rule
abbrev pub Proposes : Mending → List ℕ → List ℕ → Type 0
Proposes m w text = (a : Option (List Change)) × (n : Mending) × mending_rule m w a n × (text ≡ proposal_text a)

-- the number of octets mended, or the cause why none is, and the word then
abbrev pub mend_text : Result ℕ WordFault → List ℕ → List ℕ
mend_text (Ok zero) v = codes "codeword"
mend_text (Ok (suc n)) v = named_text (codes "mended") v
mend_text (Err e) v = unmended_text e

abbrev pub MendsAs : Mending → List ℕ → List ℕ → Type 0
MendsAs m w text = (r : Result ℕ WordFault) × (v : List ℕ) × (n : Mending) × Mended mending_rule m w r v n × (text ≡ mend_text r v)
