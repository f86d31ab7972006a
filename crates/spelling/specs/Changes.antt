-- The changes that a text writes.
use Rattle.std.specs.Prelude.{ℕ, cond, List, [], length, Some, None, Option, ◌==◌, nat_le, slice_index_or}
use Rattle.words.specs.declared.change.Change.{Change}
use Rattle.spelling.specs.Lists.{and_then, each, spelled}
use Rattle.spelling.specs.Numbers.{number_read}
use Rattle.spelling.specs.Octets.{octet_read}
use Rattle.spelling.specs.Pieces.{pieces}

abbrev pub change_of : Option ℕ → Option ℕ → Option Change
change_of place octet = and_then place (λ p. and_then octet (λ o. Some (record { place = p; octet = o })))

-- a place and an octet, with a colon (58) between them
abbrev pub change_read : List ℕ → Option Change
change_read t = cond (length (pieces 58 t) == 2) (change_of (number_read 999999999 (slice_index_or (pieces 58 t) 0 [])) (octet_read (slice_index_or (pieces 58 t) 1 []))) None

-- at most 240 of them, with a comma (44) between each two
abbrev pub changes_read : List ℕ → Option (List Change)
changes_read t = spelled (λ u. cond (nat_le (length (pieces 44 u)) 240) (each change_read (pieces 44 u)) None) t
