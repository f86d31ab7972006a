-- Each refusal's number, layer and place, each layer's name, and each cause's number.
use Rattle.std.specs.Prelude.{ℕ, List, codes}
use Rattle.words.specs.declared.fault.WordFault.{WordFault}
use Rattle.words.specs.declared.fault.WordFault.TheVariants.{Nothing, TooMany, Outside, Twice, Zero, NoCodeword}
use Rattle.words.specs.declared.fault.CoderFault.{CoderFault}
use Rattle.words.specs.declared.fault.CoderFault.TheVariants.{Lengths}
use Rattle.words.specs.declared.fault.Layer.{Layer}
use Rattle.words.specs.declared.fault.Layer.TheVariants.{WordCoder, Door, Preamble, Header, Payload}
use Rattle.words.specs.declared.fault.Refusal.{Refusal}

abbrev pub coder_refusal : CoderFault → Refusal
coder_refusal Lengths = record { number = 20; layer = WordCoder; place = 0 }

-- the layer's name, as it is printed
abbrev pub layer_text : Layer → List ℕ
layer_text WordCoder = codes "word coder"
layer_text Door = codes "door"
layer_text Preamble = codes "preamble"
layer_text Header = codes "header"
layer_text Payload = codes "payload"

-- why a proposal is not accepted
abbrev pub cause_of : WordFault → ℕ
cause_of Nothing = 1
cause_of TooMany = 2
cause_of Outside = 3
cause_of Twice = 4
cause_of Zero = 5
cause_of NoCodeword = 6
