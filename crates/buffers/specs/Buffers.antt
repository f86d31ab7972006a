-- What became of the buffers of a call: b before it, and a after it.
use Rattle.std.specs.Prelude.{ℕ, Bool, true, false, cond, ◌&&◌, List, [], ◌∷◌, take, drop, Some, None, codes, Option, ◌==◌, nat_le}
use Rattle.std.specs.Str.{bytes_eq}
use Rattle.buffers.specs.declared.buffers.Buffers.{Buffers}
use Rattle.buffers.specs.declared.buffers.Buffers.TheVariants.{Filled, Untouched, Zeroed, Other}

abbrev pub buffers_text : Buffers → List ℕ
buffers_text Filled = codes "filled"
buffers_text Untouched = codes "untouched"
buffers_text Zeroed = codes "zeroed"
buffers_text Other = codes "other"

abbrev pub all_zero : List ℕ → Bool
all_zero [] = true
all_zero (o ∷ os) = o == 0 && all_zero os

-- every one is dark or lit
abbrev pub all_chips : List ℕ → Bool
all_chips [] = true
all_chips (c ∷ cs) = nat_le c 1 && all_chips cs

-- a build that was not refused wrote n chips, and the later chips are as before
abbrev pub build_filled : Option ℕ → List ℕ → List ℕ → Bool
build_filled None b a = false
build_filled (Some n) b a = all_chips (take n a) && bytes_eq (drop n b) (drop n a)

-- the body, and then the chips
abbrev pub after_build : Option ℕ → List ℕ → List ℕ → List ℕ → List ℕ → Buffers
after_build n body body' b a =
    cond (bytes_eq body body') (cond (build_filled n b a) Filled (cond (bytes_eq b a) Untouched Other)) Other

-- a read that was not refused wrote l octets of the body, then zeros up to octet 2,048, and the later octets are as before
abbrev pub read_filled : Option ℕ → List ℕ → List ℕ → Bool
read_filled None b a = false
read_filled (Some l) b a = all_zero (drop l (take 2048 a)) && bytes_eq (drop 2048 b) (drop 2048 a)

-- the MAC header buffer and the first 2,048 octets of the body buffer are zero, and the later octets are as before
abbrev pub read_zeroed : List ℕ → List ℕ → List ℕ → Bool
read_zeroed mac b a = all_zero mac && (all_zero (take 2048 a) && bytes_eq (drop 2048 b) (drop 2048 a))

-- the MAC header, and then the body
abbrev pub after_read : Option ℕ → List ℕ → List ℕ → List ℕ → List ℕ → Buffers
after_read l mac mac' b a =
    cond (read_filled l b a) Filled (cond (bytes_eq mac mac' && bytes_eq b a) Untouched (cond (read_zeroed mac' b a) Zeroed Other))

-- the parity of an encoding that was refused
abbrev pub after_encode : List ℕ → List ℕ → Buffers
after_encode b a = cond (bytes_eq b a) Untouched Other
