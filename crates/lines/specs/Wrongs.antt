-- What is said of a line that is wrong.
use Rattle.std.specs.Prelude.{ℕ, List, codes}
use Rattle.lines.specs.declared.wrong.Wrong.{Wrong}
use Rattle.lines.specs.declared.wrong.Wrong.TheVariants.{Call, Count, Number, Octets, Chips, Changes, Mender, Station}

abbrev pub wrong_text : Wrong → List ℕ
wrong_text Call = codes "unknown call"
wrong_text Count = codes "wrong number of words"
wrong_text Number = codes "bad number"
wrong_text Octets = codes "bad octets"
wrong_text Chips = codes "bad chips"
wrong_text Changes = codes "bad changes"
wrong_text Mender = codes "bad mender"
wrong_text Station = codes "no station is open"
