-- Octets with a sequence added.
use Rattle.std.proofs.Common.{◌≡◌, ℕ, zero, suc, ◌+◌, ◌*◌, ◌<◌, ◌≤◌, List, ◌++◌, length, get_or, take, drop, set, sym, ap, ◌∙◌, suc-add, zero-add, arith, take-append-drop}
use lib.Bits.{bit_xor}
use Rattle.std.proofs.lemmas.List.{drop_more, drop_all}
use Rattle.polynomials.proofs.Rows.{write_next}
use Rattle.format.specs.Sequences.{advanced, after, key, mixed}

pub after_add : (m n r : ℕ) → after (m + n) r ≡ after n (after m r)
unfolding after
after_add zero n r = ap (λ k. after k r) (zero-add n)
after_add (suc m) n r = ap (λ k. after k r) (suc-add m n) ∙ after_add m n (advanced r)

-- one octet more, mixed in place
pub mixed_more : (r : ℕ) (os : List ℕ) (i : ℕ) → i < length os
    → take (i + 1) (set os i (bit_xor (get_or os i 0) (key r))) ++ mixed (after 8 r) (drop (i + 1) (set os i (bit_xor (get_or os i 0) (key r)))) ≡ take i os ++ mixed r (drop i os)
unfolding mixed
mixed_more r os i h = write_next os i (bit_xor (get_or os i 0) (key r)) (mixed (after 8 r)) h ∙ sym (ap (λ l. take i os ++ mixed r l) (drop_more os i 0 h))

pub mixed_all : (r i : ℕ) (os : List ℕ) → length os ≤ i → take i os ++ mixed r (drop i os) ≡ os
unfolding mixed
mixed_all r i os h = ap (λ l. take i os ++ mixed r l) (drop_all i os h) ∙ ap (λ l. take i os ++ l) (sym (drop_all i os h)) ∙ take-append-drop i os

-- the register behind one octet more
pub after_octet : (i r : ℕ) → after (8 * (i + 1)) r ≡ after 8 (after (8 * i) r)
after_octet i r = ap (λ n. after n r) (let e : 8 * (i + 1) ≡ 8 * i + 8 = omega arith in e) ∙ after_add (8 * i) 8 r
