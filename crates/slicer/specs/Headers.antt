-- Whether a header word's check sequence is right.
use Rattle.std.specs.Prelude.{ℕ, Bool, List, ◌++◌, take, ◌==◌}
use Rattle.elements.specs.Octets.{octets}
use Rattle.polynomials.specs.Differences.{differing}
use Rattle.format.specs.Header.{hcs}
use Rattle.format.specs.Reading.{mac_read, hcs_read}

-- the check sequence that the PHY header and the MAC header of a word ask for
abbrev pub hcs_asked : List ℕ → List ℕ
hcs_asked word = hcs (take 4 word ++ mac_read word)

abbrev pub header_right : List ℕ → Bool
header_right word = differing octets (hcs_read word) (hcs_asked word) == 0
