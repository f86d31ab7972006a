-- Changes to a word: what they make of it, and which proposals are accepted.
use Rattle.std.specs.Prelude.{◌≡◌, ℕ, Bool, true, false, cond, not, ◌&&◌, ◌||◌, List, [], ◌∷◌, length, Some, None, Ok, Err, Option, Result, ◌==◌, bit_xor, nat_lt, slice_index, slice_set}
use Rattle.elements.specs.Octets.{Octet}
use Rattle.words.specs.declared.change.Change.{Change}
use Rattle.words.specs.declared.fault.WordFault.{WordFault}
use Rattle.words.specs.declared.fault.WordFault.TheVariants.{Nothing, TooMany, Outside, Twice, Zero, NoCodeword}
use Rattle.words.specs.Coder.{is_codeword}

-- a change that fills a place which holds no proposal
abbrev pub blank : Change
blank = record { place = 0; octet = 0 }

-- a change adds an octet
abbrev pub Adds : Change → Type 0
Adds c = Octet c.octet

-- the word with each change's octet added at its place
unfoldable pub changed : List ℕ → List Change → List ℕ
changed w [] = w
changed w (c ∷ cs) = changed (slice_set w c.place (bit_xor (slice_index w c.place) c.octet)) cs

-- every place is below n
abbrev pub inside : ℕ → List Change → Bool
inside n [] = true
inside n (c ∷ cs) = nat_lt c.place n && inside n cs

-- a place is named by some change
abbrev pub named : ℕ → List Change → Bool
named p [] = false
named p (c ∷ cs) = c.place == p || named p cs

-- no place is named twice
abbrev pub once : List Change → Bool
once [] = true
once (c ∷ cs) = not (named c.place cs) && once cs

-- no change is zero
abbrev pub nonzero : List Change → Bool
nonzero [] = true
nonzero (c ∷ cs) = not (c.octet == 0) && nonzero cs

-- the first test that a proposal fails
abbrev pub fault_of : List ℕ → List Change → Option WordFault
fault_of w cs =
    cond (length cs == 0) (Some Nothing)
    (cond (nat_lt 8 (length cs)) (Some TooMany)
    (cond (inside (length w) cs)
    (cond (once cs)
    (cond (nonzero cs)
    (cond (is_codeword (changed w cs)) None (Some NoCodeword))
    (Some Zero)) (Some Twice)) (Some Outside)))

-- the answer to a proposal
abbrev pub verdict : Option WordFault → Result (Unit {0}) WordFault
verdict None = Ok tt
verdict (Some e) = Err e

-- the word with the changes made, if they are accepted
abbrev pub mended_by : Option WordFault → List ℕ → List Change → List ℕ
mended_by None w cs = changed w cs
mended_by (Some e) w cs = w

abbrev pub mended : List ℕ → List Change → List ℕ
mended w cs = mended_by (fault_of w cs) w cs

-- the changes are precisely the difference between a word and c: each names a place of the word, none twice, none is zero, and they turn the word into c
pub record Difference (w c : List ℕ) (cs : List Change) : Type 0 where
  pub places : inside (length w) cs ≡ true
  pub apart : once cs ≡ true
  pub real : nonzero cs ≡ true
  pub turns : changed w cs ≡ c
