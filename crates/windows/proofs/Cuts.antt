-- Parts of a list that are cut at its end.
use Rattle.std.proofs.Common.{◌≡◌, ℕ, ◌-◌, List, [], length, take, drop, Some, None, Option, sym, ap, ◌∙◌, ⊎_elim, arith}
use denote.Ref.{Bor}
use Rattle.std.specs.Option.{unwrap_or}
use Rattle.std.specs.Slice.{IsGetRangeResult}
use Rattle.std.proofs.lemmas.List.{take_all, drop_all, take_rest}

-- what stands from a place on: nothing past the end
pub from_place : (w : List ℕ) (s : ℕ) (r : Option (Bor (List ℕ))) (none : Bor (List ℕ)) → none.now ≡ [] → IsGetRangeResult w s (length w) r → (unwrap_or r none).now ≡ drop s w
from_place w s None none e (h, k) = e ∙ sym (drop_all s w (⊎_elim (λ l. omega arith) (λ l. absurd (omega arith)) h))
from_place w s (Some x) none e (h, k) = h.2 ∙ take_rest w s

-- the front, of so many elements or of all
pub up_to : (all : Bor (List ℕ)) (n : ℕ) (r : Option (Bor (List ℕ))) → IsGetRangeResult all.now 0 n r → (unwrap_or r all).now ≡ take n all.now
up_to all n None (h, k) = sym (take_all n all.now (⊎_elim (λ l. absurd (omega arith)) (λ l. omega arith) h))
up_to all n (Some x) (h, k) = h.2 ∙ ap (λ i. take i all.now) (let e : n - 0 ≡ n = omega arith in e)
