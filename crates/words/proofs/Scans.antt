-- Tests over changes, one change at a time: what a loop that goes through them knows.
use Rattle.std.proofs.Common.{◌≡◌, ℕ, ◌+◌, ◌<◌, ◌≤◌, true, false, not, ◌&&◌, ◌||◌, eqb, ltb, leb, List, [], ◌∷◌, length, get_or, drop, set, sym, refl, ap, ◌∙◌}
use lib.Bits.{bit_xor}
use Rattle.std.specs.List.{list_all, list_any}
use Rattle.std.proofs.lemmas.List.{at_drop_more, at_drop_all, length-set}
use Rattle.std.proofs.lemmas.Bool.{ltb-true, and_parts, and_left, and_right, lt-leb}
use Rattle.words.specs.declared.change.Change.{Change}
use Rattle.words.specs.Coder.{word_long, is_codeword}
use Rattle.words.specs.Changes.{changed, inside, named, nonzero, blank}

-- the tests, by the library's words
pub inside_is : (n : ℕ) (cs : List Change) → inside n cs ≡ list_all (λ c. ltb c.place n) cs
inside_is n [] = refl
inside_is n (c ∷ cs) = ap (λ t. ltb c.place n && t) (inside_is n cs)

pub named_is : (p : ℕ) (cs : List Change) → named p cs ≡ list_any (λ c. eqb c.place p) cs
named_is p [] = refl
named_is p (c ∷ cs) = ap (λ t. eqb c.place p || t) (named_is p cs)

pub nonzero_is : (cs : List Change) → nonzero cs ≡ list_all (λ c. not (eqb c.octet 0)) cs
nonzero_is [] = refl
nonzero_is (c ∷ cs) = ap (λ t. not (eqb c.octet 0) && t) (nonzero_is cs)

-- the change at i, and those behind it
abbrev pub at : List Change → ℕ → Change
at cs i = get_or cs i blank

module _ (cs : List Change) (i : ℕ) (h : i < length cs) where
  pub inside_here : (n : ℕ) → inside n (drop i cs) ≡ true → ((at cs i).place < n) × (inside n (drop (i + 1) cs) ≡ true)
  inside_here n e =
      let parts = and_parts (ltb (at cs i).place n) (inside n (drop (i + 1) cs)) (sym (at_drop_more (inside n) cs i blank h) ∙ e) in
      (ltb-true (at cs i).place n parts.0, parts.1)

  -- one change more is made
  pub changed_more : (w : List ℕ) → changed (set w (at cs i).place (bit_xor (get_or w (at cs i).place 0) (at cs i).octet)) (drop (i + 1) cs) ≡ changed w (drop i cs)
  unfolding changed
  changed_more w = sym (at_drop_more (changed w) cs i blank h)

pub changed_none : (w : List ℕ) (cs : List Change) (i : ℕ) → length cs ≤ i → changed w (drop i cs) ≡ w
unfolding changed
changed_none w cs i h = at_drop_all (changed w) cs i h

pub length_changed : (w : List ℕ) (cs : List Change) → length (changed w cs) ≡ length w
unfolding changed
length_changed w [] = refl
length_changed w (c ∷ cs) = length_changed (set w c.place (bit_xor (get_or w c.place 0) c.octet)) cs ∙ length-set w c.place (bit_xor (get_or w c.place 0) c.octet)

-- what has not a word's length is no codeword
pub too_long : (w : List ℕ) → 240 < length w → is_codeword w ≡ false
too_long w h = and_left (word_long w) _ (and_right (leb 17 (length w)) (leb (length w) 240) (lt-leb (length w) 240 h))
