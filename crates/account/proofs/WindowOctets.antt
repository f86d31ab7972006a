-- The words that are read from a window are octets: the header word always, and a body word where every chip is 0 or 1, as the door asks.
use Rattle.std.proofs.Common.{◌≡◌, ℕ, zero, suc, ◌+◌, ◌*◌, ◌/◌, ◌%◌, true, false, cond, leb, List, [], ◌∷◌, map, length, get_or, take, drop, Some, None, refl, le_refl, arith}
use Rattle.std.specs.List.{range_with_len, AllByRecursion as Each}
use Rattle.std.proofs.ByRecursion.{All-take, All-drop}
use Rattle.std.proofs.lemmas.Bool.{leb-true, cond_both}
use Rattle.std.proofs.lemmas.Bool.Decides.{nat_tests}
use Rattle.elements.specs.Octets.{Octet}
use Rattle.format.specs.declared.mode.Mode.{Mode}
use Rattle.format.specs.Modes.{row}
use Rattle.format.specs.Sequences.{drawn, spreader}
use Rattle.format.specs.Payload.{word_count}
use Rattle.format.specs.Frame.{added}
use Rattle.format.specs.Reading.{bad_from, ones, majorities, despread, header_part, header_read, block_place, block_chips, payload_bit, payload_octet, payload_octets, word_length, word_read}
use Rattle.format.proofs.LineBits.{Bit, value_octet, octets_of_octets}
use Rattle.account.specs.Rows.{chip_row, door_row}
use Rattle.account.specs.Reads.{words_read}

-- ---- the chips of a window that passes the door

chips_from : (i : ℕ) (w : List ℕ) → chip_row (bad_from i w) ≡ None → Each Bit w
chips_from i [] e = tt
chips_from i (c ∷ w) e =
    (elim (leb c 1) as (λ t. leb c 1 ≡ t → chip_row (cond t (bad_from (i + 1) w) (Some i)) ≡ None → Bit c × Each Bit w) [
      | true ↦ λ low q. (omega (arith, leb-true c 1 low), chips_from (i + 1) w q)
      | false ↦ λ low q. let z : ◌≡◌ {A = ℕ} 0 1 = cc in absurd (omega arith)
    ]) refl e

pub door_chips : (n : ℕ) (w body mac : List ℕ) → door_row n w body mac ≡ None → Each Bit w
door_chips n w body mac e = chips_from 0 w (grind (arith, nat_tests))

-- ---- the words

majorities_bits : (k : ℕ) (bs : List ℕ) → Each Bit (majorities k bs)
unfolding majorities
majorities_bits zero bs = tt
majorities_bits (suc k) bs = (elim (leb 9 (ones (take 16 bs))) as (λ t. Bit (cond t 1 0)) [ true ↦ omega arith | false ↦ omega arith ], majorities_bits k (drop 16 bs))

pub header_octets : (n : ℕ) (w : List ℕ) → Each Octet (header_read n w)
unfolding header_read despread
header_octets n w = octets_of_octets 32 _ (majorities_bits 256 (added (header_part n w) (drawn 4096 spreader)))

get_or_bit : (bs : List ℕ) (i : ℕ) → Each Bit bs → Bit (get_or bs i 0)
get_or_bit [] i h = omega arith
get_or_bit (b ∷ bs) zero h = h.0
get_or_bit (b ∷ bs) (suc i) h = get_or_bit bs i h.1

all_counted : {X : Type 0} (P : X → Type 0) (f : ℕ → X) (a n : ℕ) → ((k : ℕ) → P (f k)) → Each P (map f (range_with_len a n))
all_counted P f a zero h = tt
all_counted P f a (suc n) h = (h a, all_counted P f (a + 1) n h)

module _ (m : Mode) (w : List ℕ) (chips : Each Bit w) where
  block_bits : (b : ℕ) → Each Bit (block_chips m b w)
  unfolding block_chips
  block_bits b =
      let n = 508 * (row m).spread in
      let from = drop (block_place m b) w in
      cond_both (leb (block_place m (b + 1)) (length w)) (take n from) [] (Each Bit) (λ _. All-take Bit n from (All-drop Bit (block_place m b) w chips)) (λ _. tt)

  bit_below : (k : ℕ) → Bit (payload_bit m w k)
  unfolding payload_bit
  bit_below k = get_or_bit (block_chips m (k / 508) w) ((row m).spread * (k % 508)) (block_bits (k / 508))

  octet_below : (j : ℕ) → Octet (payload_octet m w j)
  unfolding payload_octet
  octet_below j =
      let bit : ℕ → ℕ = λ i. payload_bit m w (8 * j + i) in
      value_octet (map bit (range_with_len 0 8)) (all_counted Bit bit 0 8 (λ i. bit_below (8 * j + i))) (le_refl 8)

  word_octets : (L k : ℕ) → Each Octet (word_read m L w k)
  unfolding word_read payload_octets
  word_octets L k = all_counted Octet (payload_octet m w) (240 * k) (word_length L k) octet_below

  pub words_octets : (L : ℕ) → Each (Each Octet) (words_read m L w)
  words_octets L = all_counted (Each Octet) (word_read m L w) 0 (word_count L) (word_octets L)
