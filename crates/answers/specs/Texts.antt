-- Answers as text.
use Rattle.std.specs.Prelude.{ℕ, true, false, cond, List, [], ◌++◌, length, Some, None, vec_items, codes, decimal, Option}
use Rattle.words.specs.declared.change.Change.{Change}
use Rattle.words.specs.declared.fault.Layer.{Layer}
use Rattle.words.specs.declared.fault.Layer.TheVariants.{WordCoder, Door, Preamble, Header, Payload}
use Rattle.words.specs.declared.fault.Refusal.{Refusal}
use Rattle.words.specs.declared.fault.WordFault.{WordFault}
use Rattle.words.specs.Refusals.{cause_of}
use Rattle.format.specs.Modes.{row}
use Rattle.faults.specs.declared.delivery.Built.{Built}
use Rattle.faults.specs.declared.delivery.Delivery.{Delivery}
use Rattle.writing.specs.Octets.{octets_written}
use Rattle.writing.specs.Chips.{chips_written}
use Rattle.writing.specs.Changes.{changes_written}
use Rattle.buffers.specs.Buffers.{buffers_text}
use Rattle.answers.specs.declared.answer.Answer.{Answer}
use Rattle.answers.specs.declared.answer.Answer.TheVariants.{Opened, Built as AnswerBuilt, Delivered, Row as AnswerRow, Count, Nothing, Part, Parity, Codeword, Hcs, Proposed, NotProposed, Accepted, Whole, Mended, Unmended, Refused}
use Rattle.buffers.specs.declared.buffers.Buffers.{Buffers}

abbrev pub layer_name : Layer → List ℕ
layer_name WordCoder = codes "word-coder"
layer_name Door = codes "door"
layer_name Preamble = codes "preamble"
layer_name Header = codes "header"
layer_name Payload = codes "payload"

-- what was built, and the chips that were written
abbrev pub built_text : Built → Buffers → List ℕ → List ℕ
built_text b buffers chips =
    (codes "built seed=" ++ (decimal b.seed ++ (codes " chips=" ++ (decimal b.chips ++ (codes " buffers=" ++ (buffers_text buffers ++ codes " "))))))
    ++ chips_written chips

-- what was delivered, the MAC header and the body
abbrev pub sent_text : Delivery → List ℕ
sent_text d =
    codes "delivered mode=" ++ (decimal (row d.mode).number ++ (codes " seed=" ++ (decimal d.seed ++ (codes " aggregation=" ++ decimal (cond d.aggregation 1 0)))))

abbrev pub got_text : Delivery → Buffers → List ℕ
got_text d buffers = codes " length=" ++ (decimal d.length ++ (codes " mended=" ++ (decimal d.mended ++ (codes " buffers=" ++ buffers_text buffers))))

abbrev pub octets_text : List ℕ → List ℕ → List ℕ
octets_text mac body = (codes " mac=" ++ octets_written mac) ++ (codes " body=" ++ octets_written body)

abbrev pub delivered_text : Delivery → Buffers → List ℕ → List ℕ → List ℕ
delivered_text d buffers mac body = sent_text d ++ (got_text d buffers ++ octets_text mac body)

abbrev pub cause_text : Option WordFault → List ℕ
cause_text None = []
cause_text (Some e) = codes " cause=" ++ decimal (cause_of e)

abbrev pub left_text : Option Buffers → List ℕ
left_text None = []
left_text (Some b) = codes " buffers=" ++ buffers_text b

abbrev pub refused_text : Refusal → Option WordFault → Option Buffers → List ℕ
refused_text r cause buffers =
    (codes "refused number=" ++ (decimal r.number ++ (codes " layer=" ++ (layer_name r.layer ++ (codes " place=" ++ decimal r.place)))))
    ++ (cause_text cause ++ left_text buffers)

abbrev pub part_text : ℕ → List ℕ → List ℕ
part_text place chips = (codes "part place=" ++ (decimal place ++ (codes " chips=" ++ (decimal (length chips) ++ codes " ")))) ++ chips_written chips

-- a word, and octets behind it
abbrev pub named_text : List ℕ → List ℕ → List ℕ
named_text name octets = (name ++ codes " ") ++ octets_written octets

abbrev pub proposed_text : List Change → List ℕ
proposed_text cs = codes "proposed " ++ changes_written cs

abbrev pub answer_text : Answer → List ℕ
answer_text (Opened reach) = codes "opened reach=" ++ decimal reach
answer_text (AnswerBuilt b buffers chips) = built_text b buffers (vec_items chips)
answer_text (Delivered d buffers mac body) = delivered_text d buffers (vec_items mac) (vec_items body)
answer_text (AnswerRow mode windows octets) = codes "mode " ++ (decimal mode ++ (codes " windows=" ++ (decimal windows ++ (codes " octets=" ++ decimal octets))))
answer_text (Count number count) = codes "refusal " ++ (decimal number ++ (codes " count=" ++ decimal count))
answer_text Nothing = codes "none"
answer_text (Part place chips) = part_text place (vec_items chips)
answer_text (Parity parity) = named_text (codes "parity") (vec_items parity)
answer_text (Codeword true) = codes "yes"
answer_text (Codeword false) = codes "no"
answer_text (Hcs octets) = named_text (codes "hcs") octets
answer_text (Proposed changes) = proposed_text (vec_items changes)
answer_text NotProposed = codes "nothing"
answer_text (Accepted word) = named_text (codes "accepted") (vec_items word)
answer_text Whole = codes "codeword"
answer_text (Mended word) = named_text (codes "mended") (vec_items word)
answer_text (Unmended e) = codes "unmended cause=" ++ decimal (cause_of e)
answer_text (Refused r cause buffers) = refused_text r cause buffers
