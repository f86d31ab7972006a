-- Changes as text.
use Rattle.std.specs.Prelude.{ℕ, List, [], ◌∷◌, ◌++◌, codes, decimal}
use Rattle.words.specs.declared.change.Change.{Change}
use Rattle.writing.specs.Octets.{octet_written}

-- how changes are written
abbrev pub change_written : Change → List ℕ
change_written c = decimal c.place ++ (codes ":" ++ octet_written c.octet)

-- each with a comma before it
abbrev pub listed : List Change → List ℕ
listed [] = []
listed (c ∷ cs) = (codes "," ++ change_written c) ++ listed cs

abbrev pub changes_written : List Change → List ℕ
changes_written [] = codes "-"
changes_written (c ∷ cs) = change_written c ++ listed cs
