-- The octets are a field, and alpha has 255 distinct powers.
use Rattle.std.proofs.Common.{◌≡◌, ℕ, zero, suc, ◌<◌, Bool, T, eqb, List, get_or, sym, refl, ap, ◌∙◌, one-add, arith, eqb→eq}
use mathlib.Core.Path.{fun_ext}
use native.Mathlib.Bridge.{le_prop}
use lib.Bits.{xor_self}
use Rattle.elements.specs.Laws.{Operations}
use Rattle.elements.specs.Octets.{Octet, octets, double, product, power}
use Rattle.elements.specs.OctetLaws.{octets_laws, power_below, product_power}
use Rattle.elements.proofs.TableRules.{sets, logarithms}
use Rattle.elements.specs.Tests.{every, at}
use Rattle.coding.specs.Field.{Field}
use Rattle.coding.specs.Sums.{Nonzero, pow}
use Rattle.coding.proofs.Distance.{PowersApart}
use Rattle.coding.proofs.Carrier.{FieldOn, Part, part_ops, part_path, part_field}

pub octets_field : FieldOn Octet octets
octets_field = record {
  once = λ x. le_prop;
  laws = octets_laws;
  add_self = λ x _. xor_self x;
  neg_self = λ x _. refl;
  one_not_zero = λ e. omega arith;
}

-- the field of the octets, and the powers of alpha in it
abbrev pub Proper : Type 0
Proper = Part ℕ Octet

abbrev pub proper_ops : Operations Proper
proper_ops = part_ops octets_field

pub proper : Field proper_ops
proper = part_field octets_field

abbrev pub alpha : ℕ → Proper
alpha k = (power k, power_below k)

reads_back : List ℕ → ℕ → Bool
reads_back xs i = eqb (get_or xs (power i) 0) i

-- computed: the logarithm of each power
all_read_back : T (every (reads_back logarithms) 0 255)
unfolding reads_back logarithms sets power double
all_read_back = tt

logarithm_power : (i : ℕ) → i < 255 → get_or logarithms (power i) 0 ≡ i
unfolding reads_back
logarithm_power i h = eqb→eq _ i (at (reads_back logarithms) 255 all_read_back i h)

pub power_injective : (i j : ℕ) → i < 255 → j < 255 → power i ≡ power j → i ≡ j
power_injective i j hi hj e = sym (logarithm_power i hi) ∙ ap (λ a. get_or logarithms a 0) e ∙ logarithm_power j hj

power_zero : power 0 ≡ 1
unfolding power
power_zero = refl

pub power_one : power 1 ≡ 2
unfolding power double
power_one = refl

pub pow_power : (k : ℕ) → pow octets 2 k ≡ power k
pow_power zero = sym power_zero
pow_power (suc k) = ap (product 2) (pow_power k) ∙ ap (λ a. product a (power k)) (sym power_one) ∙ product_power 1 k ∙ ap power (one-add k)

pow_alpha : (k : ℕ) → pow proper_ops (alpha 1) k ≡ alpha k
pow_alpha k = part_path octets_field _ _ (below k)
  where
    below : (k : ℕ) → (pow proper_ops (alpha 1) k).0 ≡ power k
    below zero = sym power_zero
    below (suc k) = ap (product (power 1)) (below k) ∙ product_power 1 k ∙ ap power (one-add k)

pub alpha_is : pow proper_ops (alpha 1) ≡ alpha
alpha_is = fun_ext pow_alpha

pub alpha_nonzero : Nonzero proper_ops (alpha 1)
alpha_nonzero e = let z : ◌≡◌ {A = ℕ} 2 0 = sym power_one ∙ ap (λ x. x.0) e in omega arith

pub alpha_apart : PowersApart proper_ops (alpha 1) 255
alpha_apart i j before inside e =
    let same_power = power_injective i j (omega arith) inside (ap (λ x. x.0) (sym (pow_alpha i) ∙ e ∙ pow_alpha j)) in
    omega arith
