-- What the words of a line say.
use Rattle.std.specs.Prelude.{◌≡◌, ℕ, Bool, true, false, cond, ◌||◌, List, [], length, Ok, Err, codes, Result, ◌==◌, nat_lt, slice_index_or}
use Rattle.std.specs.Option.{ok_or}
use Rattle.std.specs.Str.{bytes_eq}
use Rattle.words.specs.declared.change.Change.{Change}
use Rattle.chosen.specs.declared.leaf.Leaf.{Leaf}
use Rattle.chosen.specs.declared.pile.Pile.{Pile}
use Rattle.chosen.specs.Names.{leaf_named, pile_named}
use Rattle.spelling.specs.Numbers.{number_read}
use Rattle.spelling.specs.Octets.{octets_read}
use Rattle.spelling.specs.Chips.{chips_read}
use Rattle.spelling.specs.Changes.{changes_read}
use Rattle.spelling.specs.Pieces.{pieces}
use Rattle.lines.specs.declared.wrong.Stop.{Stop}
use Rattle.lines.specs.declared.wrong.Stop.TheVariants.{Wrong as stop_wrong, Memory}
use Rattle.lines.specs.declared.wrong.Wrong.{Wrong}
use Rattle.lines.specs.declared.wrong.Wrong.TheVariants.{Count, Number, Octets, Chips, Changes, Mender}

-- what is read, or what is wrong, is what a function answered, unless it found no memory
abbrev pub Reads : {X Y : Type 0} → (Y → X) → Result X Wrong → Result Y Stop → Type 0
Reads view said (Ok y) = said ≡ Ok (view y)
Reads view said (Err (stop_wrong w)) = said ≡ Err w
Reads view said (Err (Memory e)) = Unit {0}

-- the next word is read only where this one is right
abbrev pub bind : {X Y : Type 0} → Result X Wrong → (X → Result Y Wrong) → Result Y Wrong
bind (Ok x) f = f x
bind (Err w) f = Err w

-- word k of a text, from 0: words are separated by single spaces
abbrev pub word_at : List ℕ → ℕ → List ℕ
word_at t k = slice_index_or (pieces 32 t) k []

abbrev pub number_at : ℕ → List ℕ → ℕ → Result ℕ Wrong
number_at most t k = ok_or (number_read most (word_at t k)) Number

abbrev pub flag_at : List ℕ → ℕ → Result Bool Wrong
flag_at t k = cond (bytes_eq (word_at t k) (codes "0")) (Ok false) (cond (bytes_eq (word_at t k) (codes "1")) (Ok true) (Err Number))

-- how much room a buffer has, where the word may be left out
abbrev pub room_at : ℕ → List ℕ → ℕ → Result ℕ Wrong
room_at usual t k = cond (nat_lt k (length (pieces 32 t))) (number_at 1000000 t k) (Ok usual)

abbrev pub octets_at : List ℕ → ℕ → Result (List ℕ) Wrong
octets_at t k = ok_or (octets_read (word_at t k)) Octets

abbrev pub chips_at : List ℕ → ℕ → Result (List ℕ) Wrong
chips_at t k = ok_or (chips_read (word_at t k)) Chips

abbrev pub changes_at : List ℕ → ℕ → Result (List Change) Wrong
changes_at t k = ok_or (changes_read (word_at t k)) Changes

abbrev pub mender_at : List ℕ → ℕ → Result (Pile (Pile (Pile Leaf))) Wrong
mender_at t k = ok_or (pile_named (pile_named (pile_named leaf_named)) (word_at t k)) Mender

-- a text has one of two numbers of words
abbrev pub counted : ℕ → ℕ → List ℕ → Result (Unit {0}) Wrong
counted a b t = cond (length (pieces 32 t) == a || length (pieces 32 t) == b) (Ok tt) (Err Count)
