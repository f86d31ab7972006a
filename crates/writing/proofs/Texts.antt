-- Octets and chips as digits: a row that is filled with them, that they are ASCII, and changes one behind the other.
use Rattle.std.proofs.Common.{◌≡◌, ℕ, ◌<◌, List, [], ◌∷◌, ◌++◌, take, map, get_or, slice_index, refl, length, ◌+◌, ◌/◌, ◌%◌, codes, arith, suc, sym, ap, ◌∙◌}
use Rattle.std.proofs.lemmas.Grind.{common_steps}
use Rattle.std.proofs.lemmas.List.{take_more, flat_map_more, ext_get_or, get_or-map, length-map}
use Rattle.std.proofs.lemmas.List.Recursion.{same_from_clauses}
use Rattle.std.proofs.lemmas.Str.Ascii.{IsAscii-nil, IsAscii-cons}
use Rattle.std.proofs.lemmas.List.Concat.{flat_map-append}
use Rattle.std.proofs.lemmas.List.Folds.{flat_map-map}
use Rattle.std.specs.List.{flat_map}
use Rattle.std.specs.Str.{IsAscii}
use Rattle.words.specs.declared.change.Change.{Change}
use Rattle.words.specs.Changes.{blank}
use Rattle.writing.specs.Changes.{change_written, listed}
use Rattle.writing.specs.Chips.{chip_char}
use Rattle.writing.specs.Octets.{hex_char, octet_written, octets_hex}

pub filled : {Y : Type 0} (f : ℕ → Y) (xs : List ℕ) (ys : List Y) (d : Y) → length ys ≡ length xs → ((k : ℕ) → k < length xs → get_or ys k d ≡ f (get_or xs k 0)) → ys ≡ map f xs
filled f xs ys d e h = ext_get_or d ys (map f xs) (e ∙ sym (length-map xs f)) (λ k lt. h k (omega (arith, e)) ∙ sym (get_or-map f xs k 0 d (omega (arith, e))))

chip_below : (c : ℕ) → chip_char c < 128
chip_below c = grind (arith, common_steps)

pub chips_ascii : (cs : List ℕ) → IsAscii (map chip_char cs)
chips_ascii [] = IsAscii-nil
chips_ascii (c ∷ cs) = IsAscii-cons _ _ (chip_below c) (chips_ascii cs)

hex_below : (v : ℕ) → v < 16 → hex_char v < 128
hex_below v small = grind (arith, common_steps)

pub octets_ascii : (os : List ℕ) → ((i : ℕ) → slice_index os i < 256) → IsAscii (octets_hex os)
octets_ascii [] h = IsAscii-nil
octets_ascii (o ∷ os) h =
    let small : o < 256 = h 0 in
    let low = IsAscii-cons (hex_char (o % 16)) (octets_hex os) (hex_below (o % 16) (omega arith)) (octets_ascii os (λ i. h (suc i))) in
    IsAscii-cons (hex_char (o / 16)) (hex_char (o % 16) ∷ octets_hex os) (hex_below (o / 16) (omega arith)) low

pub hex_flat : (os : List ℕ) → octets_hex os ≡ flat_map octet_written os
hex_flat = same_from_clauses octets_hex (flat_map octet_written) (λ o bs. octet_written o ++ bs) refl (λ _ _. refl) (λ _ _. refl)

pub joined : (os : List ℕ) (pairs : List (List ℕ)) → pairs ≡ map octet_written os → flat_map (λ x. x) pairs ≡ octets_hex os
joined os pairs e = ap (flat_map (λ (x : List ℕ). x)) e ∙ flat_map-map (λ x. x) octet_written os ∙ sym (hex_flat os)

pub hex_append : (xs ys : List ℕ) → octets_hex (xs ++ ys) ≡ octets_hex xs ++ octets_hex ys
hex_append xs ys = hex_flat (xs ++ ys) ∙ flat_map-append octet_written xs ys ∙ rw (hex_flat xs, hex_flat ys) refl

pub listed_flat : (cs : List Change) → listed cs ≡ flat_map (λ c. codes "," ++ change_written c) cs
listed_flat = same_from_clauses listed (flat_map (λ c. codes "," ++ change_written c)) (λ c bs. (codes "," ++ change_written c) ++ bs) refl (λ _ _. refl) (λ _ _. refl)

pub changes_more : (start : List ℕ) (cs : List Change) (i : ℕ) → i < length cs → (start ++ listed (take i cs)) ++ (codes "," ++ change_written (get_or cs i blank)) ≡ start ++ listed (take (i + 1) cs)
changes_more start cs i lt =
    rw (listed_flat (take i cs), listed_flat (take (i + 1) cs), take_more cs i blank lt) (flat_map_more (λ c. codes "," ++ change_written c) start (take i cs) (get_or cs i blank))
