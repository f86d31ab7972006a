-- The parts of a header word.
use Rattle.std.proofs.Common.{◌≡◌, ℕ, ◌+◌, cond, eqb, List, [], ◌∷◌, ◌++◌, length, take, drop, Decides, sym, refl, ap, ◌∙◌, ap₂, arith, length-drop, length-take}
use Rattle.std.proofs.lemmas.List.{take-take, drop-take, drop-drop, drop_at, drop_all, append-nil}
use Rattle.std.proofs.Math.Seq.{take-append-add}
use Rattle.std.proofs.lemmas.Bool.{eqb-true, eq-eqb}
use Rattle.elements.specs.Octets.{octets}
use Rattle.polynomials.specs.Differences.{differing}
use Rattle.elements.specs.OctetLaws.{octets_laws}
use Rattle.coding.proofs.DifferingLaws.{differing_none}
use Rattle.format.specs.declared.phy.Phy.{Phy}
use Rattle.format.specs.Sequences.{mixed, scrambler}
use Rattle.format.specs.Header.{hcs, joined, unpacked}
use Rattle.format.specs.Reading.{phy_read, plain_read, mac_read, hcs_read}
use Rattle.format.proofs.Lengths.{length_mixed, length_hcs}
use Rattle.slicer.specs.Headers.{hcs_asked, header_right}

-- rows that are equal differ in no place
differing_same : (a : List ℕ) → differing octets a a ≡ 0
differing_same [] = refl
differing_same (x ∷ a) = ap (λ t. cond t 0 1 + differing octets a a) (eq-eqb x x refl) ∙ omega (arith, differing_same a)

plain_long : (word : List ℕ) → length word ≡ 32 → length (plain_read word) ≡ 12
unfolding plain_read
plain_long word e =
    length_mixed (scrambler (phy_read word).seed) (take 12 (drop 4 word)) ∙ length-take 12 (drop 4 word) ∙ omega (arith, e, length-drop 4 word)

pub right_decides : (word : List ℕ) → length word ≡ 32 → Decides (header_right word) (hcs_read word ≡ hcs_asked word)
right_decides word e =
    let long : length (hcs_read word) ≡ length (hcs_asked word) =
    length-drop 10 (plain_read word) ∙ omega (arith, plain_long word e, length_hcs (take 4 word ++ mac_read word)) in (
      λ t. differing_none octets_laws.compares (hcs_read word) (hcs_asked word) long (eqb-true _ 0 t),
      λ h. eq-eqb _ 0 (ap (λ l. differing octets l (hcs_asked word)) h ∙ differing_same (hcs_asked word)),
    )

-- the message: the PHY header as it is sent, and behind it what is read with the sequence taken off
abbrev pub message : List ℕ → List ℕ
message word = take 4 word ++ plain_read word

pub phy_is : (word m : List ℕ) (phy : Phy) → m ≡ take 16 word → phy ≡ unpacked (joined (take 4 m)) → phy ≡ phy_read word
unfolding phy_read
phy_is word m phy em e = e ∙ ap (λ l. unpacked (joined l)) (ap (take 4) em ∙ take-take 4 16 word (omega arith))

pub message_is : (word m new : List ℕ) (seed : ℕ) → m ≡ take 16 word → new ≡ mixed (scrambler seed) (take 12 (drop 4 m)) → seed ≡ (phy_read word).seed
    → take 4 m ++ (new ++ drop 12 (drop 4 m)) ≡ message word
unfolding plain_read
message_is word m new seed em en es =
    let cut = ap (drop 4) em ∙ drop-take 4 12 word in
    let middle = ap (take 12) cut ∙ take-take 12 12 (drop 4 word) (omega arith) in
    let none = ap (drop 12) cut ∙ drop_all 12 (take 12 (drop 4 word)) (omega (arith, length-take 12 (drop 4 word))) in
    ap₂ (λ a b. a ++ b) (ap (take 4) em ∙ take-take 4 16 word (omega arith))
    (ap₂ (λ a b. a ++ b) (en ∙ ap₂ (λ s l. mixed (scrambler s) l) es middle) none ∙ append-nil (plain_read word))

module _ (word : List ℕ) (e : length word ≡ 32) where
  first_long : length (take 4 word) ≡ 4
  first_long = length-take 4 word ∙ omega (arith, e)

  pub mac_is : take 10 (drop 4 (message word)) ≡ mac_read word
  mac_is = ap (take 10) (drop_at (take 4 word) (plain_read word) 4 first_long)

  pub right_is : eqb (differing octets (drop 14 (message word)) (hcs (take 14 (message word)))) 0 ≡ header_right word
  right_is =
      let read = sym (drop-drop 10 4 (message word)) ∙ ap (drop 10) (drop_at (take 4 word) (plain_read word) 4 first_long) in
      let asked : take 14 (message word) ≡ take 4 word ++ mac_read word = ap (λ n. take (n + 10) (message word)) (sym first_long) ∙ take-append-add (take 4 word) (plain_read word) 10 in
      ap₂ (λ l s. eqb (differing octets l (hcs s)) 0) read asked
