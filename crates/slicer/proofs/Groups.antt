-- Bits and octets over groups of chips, with a sequence taken off.
use Rattle.std.proofs.Common.{◌≡◌, ℕ, zero, suc, ◌+◌, ◌-◌, ◌*◌, ◌%◌, ◌^◌, ◌<◌, ◌≤◌, min, Bool, true, false, cond, leb, List, [], ◌∷◌, ◌++◌, length, take, drop, set, replicate, sym, refl, ap, ◌∙◌, ap₂, suc-add, zero-add, ◌⊎◌, inl, inr, arith, length-append, length-set}
use mir.Val.{bool_byte}
use lib.Bits.{bit_or, bit_xor}
use Rattle.std.proofs.lemmas.List.{append_assoc, append-nil, drop-drop, drop_all, take_all, take_at, drop_at, take_more_set, drop-set-lt, take-append-drop}
use Rattle.format.specs.Sequences.{value, next, advanced, after, drawn, spreader}
use Rattle.format.specs.Bits.{octets_of}
use Rattle.format.specs.Frame.{added}
use Rattle.format.specs.Reading.{ones, majorities, despread}
use Rattle.format.proofs.Lengths.{length_drawn}
use Rattle.format.proofs.Registers.{gather_more}
use Rattle.format.proofs.Mixing.{after_add}
use Rattle.slicer.specs.Slices.{bits_from}

-- ---- the parts of a sum of rows, and of a sequence

added_none : (xs : List ℕ) → added xs [] ≡ []
unfolding added
added_none [] = refl
added_none (x ∷ xs) = refl

take_added : (n : ℕ) (xs bs : List ℕ) → take n (added xs bs) ≡ added (take n xs) (take n bs)
unfolding added
take_added zero xs bs = refl
take_added (suc n) [] bs = refl
take_added (suc n) (x ∷ xs) [] = refl
take_added (suc n) (x ∷ xs) (b ∷ bs) = ap (λ l. bit_xor x b ∷ l) (take_added n xs bs)

drop_added : (n : ℕ) (xs bs : List ℕ) → drop n (added xs bs) ≡ added (drop n xs) (drop n bs)
unfolding added
drop_added zero xs bs = refl
drop_added (suc n) [] bs = refl
drop_added (suc n) (x ∷ xs) [] = sym (added_none (drop n xs))
drop_added (suc n) (x ∷ xs) (b ∷ bs) = drop_added n xs bs

take_drawn : (n m r : ℕ) → take n (drawn (n + m) r) ≡ drawn n r
unfolding drawn
take_drawn zero m r = refl
take_drawn (suc n) m r = ap (λ k. take (suc n) (drawn k r)) (suc-add n m) ∙ ap (λ l. next r ∷ l) (take_drawn n m (advanced r))

drop_drawn : (n m r : ℕ) → drop n (drawn (n + m) r) ≡ drawn m (after n r)
unfolding drawn after
drop_drawn zero m r = ap (λ k. drawn k r) (zero-add m)
drop_drawn (suc n) m r = ap (λ k. drop (suc n) (drawn k r)) (suc-add n m) ∙ drop_drawn n m (advanced r)

-- what is drawn past a row's end counts nothing
added_short : (n : ℕ) (xs : List ℕ) (r : ℕ) → length xs ≤ n → added xs (drawn n r) ≡ added xs (drawn (length xs) r)
unfolding added drawn
added_short n [] r h = refl
added_short zero (x ∷ xs) r h = absurd (omega arith)
added_short (suc n) (x ∷ xs) r h = ap (λ l. bit_xor x (next r) ∷ l) (added_short n xs (advanced r) (omega arith))

-- nor does what stands past the end of what is drawn
added_long : (xs bs : List ℕ) → added xs bs ≡ added (take (length bs) xs) bs
unfolding added
added_long [] [] = refl
added_long [] (b ∷ bs) = refl
added_long (x ∷ xs) [] = refl
added_long (x ∷ xs) (b ∷ bs) = ap (λ l. bit_xor x b ∷ l) (added_long xs bs)

-- ---- chunks: n elements, or all that are left

abbrev Chunk : ℕ → List ℕ → List ℕ → List ℕ → Type 0
Chunk n rest g t = (rest ≡ g ++ t) × (length g ≡ min n (length rest))

chunk_parts : (n : ℕ) (g t : List ℕ) → length g ≡ min n (length (g ++ t)) → (take n (g ++ t) ≡ g) × (drop n (g ++ t) ≡ t)
chunk_parts n g [] h =
    let short = ap length (append-nil g) in
    (take_all n (g ++ []) (omega arith) ∙ append-nil g, drop_all n (g ++ []) (omega arith))
chunk_parts n g (x ∷ t) h =
    let e : length g ≡ n = omega (arith, length-append g (x ∷ t)) in
    (take_at g (x ∷ t) n e, drop_at g (x ∷ t) n e)

-- behind a short chunk nothing is left that the register is asked for
chunk_after : (n m : ℕ) (g t : List ℕ) (r : ℕ) → length g ≡ min n (length (g ++ t)) → bits_from m t (after n r) ≡ bits_from m t (after (length g) r)
unfolding bits_from added
chunk_after n m g [] r h = refl
chunk_after n m g (x ∷ t) r h = ap (λ k. bits_from m (x ∷ t) (after k r)) (let e : n ≡ length g = omega (arith, length-append g (x ∷ t)) in e)

-- ---- bits by groups

-- the bit of at most 16 chips
abbrev pub vote : List ℕ → ℕ → ℕ
vote g r = cond (leb 9 (ones (added g (drawn (length g) r)))) 1 0

-- the bit of the first 16
abbrev first_bit : List ℕ → ℕ → ℕ
first_bit chips r = cond (leb 9 (ones (added (take 16 chips) (drawn 16 r)))) 1 0

bits_first : (k : ℕ) (chips : List ℕ) (r : ℕ)
    → bits_from (suc k) chips r ≡ first_bit chips r ∷ bits_from k (drop 16 chips) (after 16 r)
unfolding bits_from majorities
bits_first k chips r =
    let n : 16 * suc k ≡ 16 + 16 * k = omega arith in
    let front = take_added 16 chips (drawn (16 + 16 * k) r) ∙ ap (added (take 16 chips)) (take_drawn 16 (16 * k) r) in
    let rest = drop_added 16 chips (drawn (16 + 16 * k) r) ∙ ap (added (drop 16 chips)) (drop_drawn 16 (16 * k) r) in
    ap (λ m. majorities (suc k) (added chips (drawn m r))) n ∙ ap₂ (λ f b. cond (leb 9 (ones f)) 1 0 ∷ majorities k b) front rest

bits_chunk : (k : ℕ) (g t : List ℕ) (r : ℕ) → length g ≡ min 16 (length (g ++ t)) → bits_from (suc k) (g ++ t) r ≡ vote g r ∷ bits_from k t (after (length g) r)
bits_chunk k g t r h =
    let parts = chunk_parts 16 g t h in
    bits_first k (g ++ t) r
    ∙ ap₂ (λ a b. cond (leb 9 (ones (added a (drawn 16 r)))) 1 0 ∷ bits_from k b (after 16 r)) parts.0 parts.1
    ∙ ap₂ (λ a l. cond (leb 9 (ones a)) 1 0 ∷ l) (added_short 16 g r (omega arith)) (chunk_after 16 k g t r h)

flag_byte : (t : Bool) → bool_byte t ≡ cond t 1 0
flag_byte true = refl
flag_byte false = refl

bit_below : (t : Bool) → cond t 1 0 < 2
bit_below true = omega arith
bit_below false = omega arith

-- one bit more of an octet
pub vote_more : (rest g t : List ℕ) (k o r whole : ℕ) → Chunk 16 rest g t → k < 8 → o < 2 ^ k → o + 2 ^ k * value (bits_from (8 - k) rest r) ≡ whole
    → (bit_or o (bool_byte (leb 9 (ones (added g (drawn (length g) r)))) * 2 ^ k % 2 ^ 8) < 2 ^ (k + 1))
    × (bit_or o (bool_byte (leb 9 (ones (added g (drawn (length g) r)))) * 2 ^ k % 2 ^ 8) + 2 ^ (k + 1) * value (bits_from (8 - (k + 1)) t (after (length g) r)) ≡ whole)
vote_more rest g t k o r whole (e, long) h low all =
    let test = leb 9 (ones (added g (drawn (length g) r))) in
    let m = 8 - (k + 1) in
    let n : 8 - k ≡ suc (8 - (k + 1)) = omega arith in
    let cut : length g ≡ min 16 (length (g ++ t)) = long ∙ ap (λ l. min 16 (length l)) e in
    let split =
    ap₂ (λ i l. value (bits_from i l r)) n e ∙ ap value (bits_chunk m g t r cut)
    ∙ ap (λ b. b + 2 * value (bits_from m t (after (length g) r))) (sym (flag_byte test)) in
    let one : bool_byte test < 2 = omega (arith, flag_byte test, bit_below test) in
    gather_more k o (bool_byte test) _ whole h low one (sym (ap (λ v. o + 2 ^ k * v) split) ∙ all)

-- no chips, no bits
bits_none : (n r : ℕ) → value (bits_from n [] r) ≡ 0
unfolding bits_from added majorities ones
bits_none zero r = refl
bits_none (suc n) r = omega (arith, bits_none n r)

pub vote_done : (rest : List ℕ) (k o r whole : ℕ) → length rest ≡ 0 → o + 2 ^ k * value (bits_from (8 - k) rest r) ≡ whole → o ≡ whole
vote_done [] k o r whole h all = omega (arith, all, ap (λ v. 2 ^ k * v) (bits_none (8 - k) r))
vote_done (x ∷ rest) k o r whole h all = absurd (omega arith)

-- ---- octets by groups

bits_take : (k m : ℕ) (chips : List ℕ) (r : ℕ) → take k (bits_from (k + m) chips r) ≡ bits_from k chips r
unfolding bits_from majorities
bits_take zero m chips r = refl
bits_take (suc k) m chips r =
    ap (λ n. take (suc k) (bits_from n chips r)) (suc-add k m) ∙ ap (take (suc k)) (bits_first (k + m) chips r)
    ∙ ap (λ l. first_bit chips r ∷ l) (bits_take k m (drop 16 chips) (after 16 r))
    ∙ sym (bits_first k chips r)

bits_drop : (k m : ℕ) (chips : List ℕ) (r : ℕ) → drop k (bits_from (k + m) chips r) ≡ bits_from m (drop (16 * k) chips) (after (16 * k) r)
unfolding after
bits_drop zero m chips r = ap (λ n. bits_from n chips r) (zero-add m)
bits_drop (suc k) m chips r =
    let n : 16 + 16 * k ≡ 16 * suc k = omega arith in
    ap (λ n. drop (suc k) (bits_from n chips r)) (suc-add k m) ∙ ap (drop (suc k)) (bits_first (k + m) chips r) ∙ bits_drop k m (drop 16 chips) (after 16 r)
    ∙ ap₂ (bits_from m) (drop-drop (16 * k) 16 chips) (sym (after_add 16 (16 * k) r))
    ∙ ap (λ p. bits_from m (drop p chips) (after p r)) n

octets_first : (n : ℕ) (chips : List ℕ) (r : ℕ)
    → octets_of (suc n) (bits_from (8 * suc n) chips r) ≡ value (bits_from 8 chips r) ∷ octets_of n (bits_from (8 * n) (drop 128 chips) (after 128 r))
unfolding octets_of
octets_first n chips r =
    let e : 8 * suc n ≡ 8 + 8 * n = omega arith in
    ap (λ m. octets_of (suc n) (bits_from m chips r)) e ∙ ap₂ (λ a b. value a ∷ octets_of n b) (bits_take 8 (8 * n) chips r) (bits_drop 8 (8 * n) chips r)

-- an octet asks for 128 chips
bits_front : (w : List ℕ) (r : ℕ) → bits_from 8 w r ≡ bits_from 8 (take 128 w) r
unfolding bits_from
bits_front w r = ap (majorities 8) (added_long w (drawn 128 r) ∙ ap (λ n. added (take n w) (drawn 128 r)) (length_drawn 128 r))

octets_chunk : (n : ℕ) (g t : List ℕ) (r : ℕ) → length g ≡ min 128 (length (g ++ t))
    → octets_of (suc n) (bits_from (8 * suc n) (g ++ t) r) ≡ value (bits_from 8 g r) ∷ octets_of n (bits_from (8 * n) t (after (length g) r))
octets_chunk n g t r h =
    let parts = chunk_parts 128 g t h in
    octets_first n (g ++ t) r
    ∙ ap₂ (λ a b. value a ∷ octets_of n (bits_from (8 * n) b (after 128 r))) (bits_front (g ++ t) r ∙ ap (λ l. bits_from 8 l r) parts.0) parts.1
    ∙ ap (λ l. value (bits_from 8 g r) ∷ octets_of n l) (chunk_after 128 (8 * n) g t r h)

-- no chips, no octets but zeros
octets_none : (n r : ℕ) → octets_of n (bits_from (8 * n) [] r) ≡ replicate n 0
unfolding octets_of
octets_none zero r = refl
octets_none (suc n) r = octets_first n [] r ∙ ap₂ (λ v l. v ∷ l) (bits_none 8 r) (octets_none n (after 128 r))

-- ---- the header word

-- what is written, and what the chips that are left tell
abbrev pub Written : List ℕ → ℕ → List ℕ → ℕ → List ℕ → Type 0
Written word j rest r whole =
    (length word ≡ 32) × (drop j word ≡ replicate (32 - j) 0) × (take j word ++ octets_of (32 - j) (bits_from (8 * (32 - j)) rest r) ≡ whole)

pub word_starts : (chips : List ℕ) → Written (replicate 32 0) 0 chips spreader (despread chips)
unfolding despread bits_from
word_starts chips = (refl, refl, refl)

-- one octet more
pub word_more : (rest g t word : List ℕ) (j r : ℕ) (whole : List ℕ) → Chunk 128 rest g t → j < 32 → Written word j rest r whole
    → Written (set word j (value (bits_from 8 g r))) (j + 1) t (after (length g) r) whole
word_more rest g t word j r whole (e, long) h (size, zeros, all) =
    let o = value (bits_from 8 g r) in
    let m = 32 - (j + 1) in
    let n : 32 - j ≡ suc (32 - (j + 1)) = omega arith in
    let cut : length g ≡ min 128 (length (g ++ t)) = long ∙ ap (λ l. min 128 (length l)) e in
    let left = octets_of m (bits_from (8 * m) t (after (length g) r)) in
    let split = ap₂ (λ i l. octets_of i (bits_from (8 * i) l r)) n e ∙ octets_chunk m g t r cut in (
      length-set word j o ∙ size,
      drop-set-lt (j + 1) word j o (omega arith) ∙ sym (drop-drop 1 j word) ∙ ap (drop 1) (zeros ∙ ap (λ i. replicate i 0) n),
      ap (λ l. l ++ left) (take_more_set word j o (omega arith)) ∙ append_assoc (take j word) (o ∷ []) left ∙ sym (ap (λ l. take j word ++ l) split) ∙ all,
    )

-- behind the last octet, or the last chip
pub word_done : (rest word : List ℕ) (j r : ℕ) (whole : List ℕ) → (32 ≤ j) ⊎ (length rest ≡ 0) → Written word j rest r whole → word ≡ whole
unfolding octets_of
word_done rest word j r whole (inl h) (size, zeros, all) =
    let none : 32 - j ≡ 0 = omega arith in
    sym (append-nil word) ∙ sym (ap₂ (λ a n. a ++ octets_of n (bits_from (8 * n) rest r)) (take_all j word (omega arith)) none) ∙ all
word_done [] word j r whole (inr h) (size, zeros, all) =
    sym (take-append-drop j word) ∙ ap (λ l. take j word ++ l) (zeros ∙ sym (octets_none (32 - j) r)) ∙ all
word_done (x ∷ rest) word j r whole (inr h) written = absurd (omega arith)
