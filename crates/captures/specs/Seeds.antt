-- Seeds of frames that follow one another.
use Rattle.std.specs.Prelude.{ℕ, ◌+◌, ◌%◌, cond, List, Some, None, codes, Option, ◌==◌}
use Rattle.captures.specs.declared.seed.SeedFault.{SeedFault}
use Rattle.captures.specs.declared.seed.SeedFault.TheVariants.{Repeated, Skipped}

-- what is wrong with a frame's seed, given that of the frame before: the next one is one more, and 15 is followed by 0
abbrev pub seed_fault : Option ℕ → ℕ → Option SeedFault
seed_fault None seed = None
seed_fault (Some last) seed = cond (seed == (last + 1) % 16) None (cond (seed == last) (Some Repeated) (Some Skipped))

-- what is said of it
abbrev pub seed_fault_text : SeedFault → List ℕ
seed_fault_text Repeated = codes "seed repeated"
seed_fault_text Skipped = codes "seed skipped"
