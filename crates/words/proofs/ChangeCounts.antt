-- How far changes take a word: changes that are the difference number the places in which word and codeword differ.
use Rattle.std.proofs.Common.{◌≡◌, ℕ, zero, suc, ◌+◌, ◌<◌, ◌≤◌, true, false, cond, not, eqb, ltb, List, [], ◌∷◌, length, get_or, set, sym, refl, ap, ◌∙◌, subst, ⊎_elim, arith}
use lib.Bits.{bit_xor, xor_assoc, xor_self, xor_zero_l, xor_lt}
use Rattle.std.specs.List.{AllByRecursion as Each}
use Rattle.std.proofs.lemmas.List.{length-set, get_or-set_same, get_or-set_other, set_past}
use Rattle.std.proofs.ByRecursion.{All-set, All-get_or}
use Rattle.std.proofs.lemmas.Bool.{and_parts, or_parts, not-true, eqb-false, ne_eqb, eq-eqb, ltb-true, cases_lt}
use Rattle.elements.specs.Octets.{octets, Octet}
use Rattle.polynomials.specs.Differences.{differing}
use Rattle.coding.proofs.LeastDistance.{octets_triangle}
use Rattle.words.specs.declared.change.Change.{Change}
use Rattle.words.specs.Changes.{changed, inside, named, once, nonzero, Difference, Adds}
use Rattle.words.proofs.Scans.{length_changed}
use Rattle.words.proofs.CodewordTest.{differing_same}

-- a place that is set to something else, where the other row has just that, is one place less
set_closer : (w v : List ℕ) (p x : ℕ) → p < length w → p < length v → get_or v p 0 ≡ x → (get_or w p 0 ≡ x → ⊥) → differing octets w v ≡ suc (differing octets (set w p x) v)
set_closer [] v p x hw hv e n = absurd (omega arith)
set_closer (a ∷ w) [] p x hw hv e n = absurd (omega arith)
set_closer (a ∷ w) (b ∷ v) zero x hw hv e n =
    let differ : eqb a b ≡ false = ne_eqb a b (λ q. n (q ∙ e)) in
    let alike : eqb x b ≡ true = eq-eqb x b (sym e) in
    rw (differ, alike) (omega arith)
set_closer (a ∷ w) (b ∷ v) (suc p) x hw hv e n =
    omega (arith, set_closer w v p x (omega arith) (omega arith) e n)

set_near : (w : List ℕ) (p x : ℕ) → differing octets w (set w p x) ≤ 1
set_near [] p x = omega arith
set_near (a ∷ w) zero x = elim (eqb a x) as (λ t. cond t 0 1 + differing octets w w ≤ 1) [ true ↦ omega (arith, differing_same w) | false ↦ omega (arith, differing_same w) ]
set_near (a ∷ w) (suc p) x = rw (eq-eqb a a refl) (omega (arith, set_near w p x))

-- no more places are changed than there are changes
pub changed_near : (w : List ℕ) (cs : List Change) → differing octets w (changed w cs) ≤ length cs
unfolding changed
changed_near w [] = omega (arith, differing_same w)
changed_near w (c ∷ cs) =
    let p = c.place in
    let x = bit_xor (get_or w p 0) c.octet in
    let v = set w p x in
    omega (arith, octets_triangle w v (changed v cs) (sym (length-set w p x)) (sym (length_changed v cs)), set_near w p x, changed_near v cs)

-- a place that no change names stays
pub changed_other : (w : List ℕ) (cs : List Change) (p : ℕ) → named p cs ≡ false → get_or (changed w cs) p 0 ≡ get_or w p 0
unfolding changed
changed_other w [] p e = refl
changed_other w (c ∷ cs) p e =
    let parts = or_parts (eqb c.place p) (named p cs) e in
    changed_other (set w c.place (bit_xor (get_or w c.place 0) c.octet)) cs p parts.1
    ∙ get_or-set_other w c.place p (bit_xor (get_or w c.place 0) c.octet) 0 (λ q. eqb-false c.place p parts.0 (sym q))

-- what is added and is not zero makes another octet
xor_apart : (a o : ℕ) → (o ≡ 0 → ⊥) → a ≡ bit_xor a o → ⊥
xor_apart a o n e = n (sym (sym (xor_self a) ∙ ap (bit_xor a) e ∙ sym (xor_assoc a a o) ∙ ap (λ z. bit_xor z o) (xor_self a) ∙ xor_zero_l o))

pub changed_count : (w : List ℕ) (cs : List Change) → inside (length w) cs ≡ true → once cs ≡ true → nonzero cs ≡ true → differing octets w (changed w cs) ≡ length cs
unfolding changed
changed_count w [] i o n = differing_same w
changed_count w (c ∷ cs) i o n =
    let p = c.place in
    let x = bit_xor (get_or w p 0) c.octet in
    let v = set w p x in
    let ip = and_parts (ltb p (length w)) (inside (length w) cs) i in
    let op = and_parts (not (named p cs)) (once cs) o in
    let np = and_parts (not (eqb c.octet 0)) (nonzero cs) n in
    let within : c.place < length w = ltb-true p (length w) ip.0 in
    let long = length-set w p x in
    let rest = changed_count v cs (subst (λ m. inside m cs ≡ true) (sym long) ip.1) op.1 np.1 in
    let there : get_or (changed v cs) p 0 ≡ x = changed_other v cs p (not-true (named p cs) op.0) ∙ get_or-set_same w p x 0 within in
    set_closer w (changed v cs) p x within (omega (arith, length_changed v cs, long)) there (xor_apart (get_or w p 0) c.octet (eqb-false c.octet 0 (not-true _ np.0)))
    ∙ ap suc rest

pub difference_count : (w c : List ℕ) (cs : List Change) → Difference w c cs → differing octets w c ≡ length cs
difference_count w c cs d = ap (differing octets w) (sym d.turns) ∙ changed_count w cs d.places d.apart d.real

-- octets stay octets
pub changed_octets : (w : List ℕ) (cs : List Change) → Each Octet w → Each Adds cs → Each Octet (changed w cs)
unfolding changed
changed_octets w [] h a = h
changed_octets w (c ∷ cs) h a =
    changed_octets (set w c.place (bit_xor (get_or w c.place 0) c.octet)) cs
    (⊎_elim
    (λ (inner : c.place < length w). All-set Octet w c.place (bit_xor (get_or w c.place 0) c.octet) (xor_lt 8 (get_or w c.place 0) c.octet (All-get_or Octet w c.place 0 inner h) a.0) h)
    (λ (past : length w ≤ c.place). subst (Each Octet) (sym (set_past w c.place _ past)) h)
    (cases_lt c.place (length w)))
    a.1
