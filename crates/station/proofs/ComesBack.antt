-- In a lawful run a frame's own chips are delivered as that frame.
use Rattle.std.proofs.Common.{ℕ, List, sym, subst₂}
use Rattle.mending.specs.Menders.{Rule}
use Rattle.format.specs.Fits.{Fits}
use Rattle.format.proofs.ReadsBack.{fits_own}
use Rattle.station.specs.Runs.{Call, read}
use Rattle.station.specs.Law.{Law, ComesBack}

pub comes_back : {M : Type 0} (rule : Rule M) (reach : ℕ) (m : M) (calls : List Call) → Law rule reach m calls → ComesBack calls
comes_back rule reach m calls law past r rest cut f more lawful window channels door =
    (law.right past (read r) rest cut).must_deliver door f lawful
    (subst₂ (λ (n : ℕ) (w : List ℕ). Fits reach n f w) (sym channels) (sym window) (fits_own reach f more lawful))
