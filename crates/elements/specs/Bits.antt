-- The field of two elements.
use Rattle.std.specs.Prelude.{Bool, true, false, not, ◌&&◌}
use Rattle.elements.specs.Laws.{Operations}

-- exclusive or
abbrev pub differ : Bool → Bool → Bool
differ true b = not b
differ false b = b

-- every bit is a proper value
abbrev pub Bit : Bool → Type 0
Bit b = Unit {0}

abbrev pub bits : Operations Bool
bits = record { zero = false; one = true; add = differ; neg = λ a. a; mul = ◌&&◌; inv = λ a. a; same = λ a b. not (differ a b) }
