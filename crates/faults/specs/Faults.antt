-- Each refusal's number, layer and place, and the word's cause that it carries.
use Rattle.std.specs.Prelude.{ℕ, Some, None, Option}
use Rattle.words.specs.declared.fault.Refusal.{Refusal}
use Rattle.words.specs.declared.fault.Layer.{Layer}
use Rattle.words.specs.declared.fault.Layer.TheVariants as layer
use Rattle.words.specs.declared.fault.WordFault.{WordFault}
use Rattle.format.specs.Refusals.{door_refusal}
use Rattle.faults.specs.declared.fault.PreambleFault.{PreambleFault}
use Rattle.faults.specs.declared.fault.PreambleFault.TheVariants.{Unreadable, Unsigned, Estimation, NoMode, Channels}
use Rattle.faults.specs.declared.fault.HeaderFault.{HeaderFault}
use Rattle.faults.specs.declared.fault.HeaderFault.TheVariants.{Word as header_word, Check, Reserved, Length}
use Rattle.faults.specs.declared.fault.PayloadFault.{PayloadFault}
use Rattle.faults.specs.declared.fault.PayloadFault.TheVariants.{Word as payload_word, Ends}
use Rattle.faults.specs.declared.fault.Fault.{Fault}
use Rattle.faults.specs.declared.fault.Fault.TheVariants.{Door, Preamble, Header, Payload}

abbrev refusal : ℕ → Layer → ℕ → Refusal
refusal number layer place = record { number = number; layer = layer; place = place }

abbrev pub preamble_refusal : PreambleFault → Refusal
preamble_refusal (Unreadable code) = refusal 9 layer.Preamble code
preamble_refusal Unsigned = refusal 10 layer.Preamble 0
preamble_refusal Estimation = refusal 11 layer.Preamble 0
preamble_refusal NoMode = refusal 12 layer.Preamble 0
preamble_refusal Channels = refusal 13 layer.Preamble 0

abbrev pub header_refusal : HeaderFault → Refusal
header_refusal (header_word e) = refusal 14 layer.Header 0
header_refusal Check = refusal 15 layer.Header 0
header_refusal Reserved = refusal 16 layer.Header 0
header_refusal Length = refusal 17 layer.Header 0

abbrev pub payload_refusal : PayloadFault → Refusal
payload_refusal Ends = refusal 18 layer.Payload 0
payload_refusal (payload_word place e) = refusal 19 layer.Payload place

-- the same fault, of the body word at a place
abbrev pub at_place : ℕ → PayloadFault → PayloadFault
at_place place Ends = Ends
at_place place (payload_word none e) = payload_word place e

-- the doors' refusals are numbered 1 to 8
abbrev pub fault_refusal : Fault → Refusal
fault_refusal (Door e) = door_refusal e
fault_refusal (Preamble e) = preamble_refusal e
fault_refusal (Header e) = header_refusal e
fault_refusal (Payload e) = payload_refusal e

abbrev header_cause : HeaderFault → Option WordFault
header_cause (header_word e) = Some e
header_cause Check = None
header_cause Reserved = None
header_cause Length = None

abbrev payload_cause : PayloadFault → Option WordFault
payload_cause Ends = None
payload_cause (payload_word place e) = Some e

-- the word's cause that a refusal carries
abbrev pub fault_cause : Fault → Option WordFault
fault_cause (Door e) = None
fault_cause (Preamble e) = None
fault_cause (Header e) = header_cause e
fault_cause (Payload e) = payload_cause e
