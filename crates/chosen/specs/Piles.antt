-- The reach and the rule of one mender, or of two one after the other.
use Rattle.std.specs.Prelude.{ℕ, max}
use Rattle.mending.specs.Menders.{Rule, Layered}
use Rattle.chosen.specs.declared.pile.Pile.{Pile}
use Rattle.chosen.specs.declared.pile.Pile.TheVariants.{One, Two}

abbrev pub pile_reach : {M : Type 0} → (M → ℕ) → Pile M → ℕ
pile_reach reach (One m) = reach m
pile_reach reach (Two p) = max (reach p.first) (reach p.second)

-- one stays one and two stay two, each by the menders' own rule
abbrev pub PileRule : {M : Type 0} → Rule M → Rule (Pile M)
PileRule rule (One m) w a (One n) = rule m w a n
PileRule rule (One m) w a (Two q) = ⊥
PileRule rule (Two p) w a (One n) = ⊥
PileRule rule (Two p) w a (Two q) = Layered rule rule p.first p.second w a q.first q.second
