-- The laws of the octets: the product is linear, and multiplication by b is a polynomial in `double`, so that any two such commute.
use Rattle.std.specs.Prelude.{◌≡◌, refl, ℕ, zero, suc, ◌+◌, ◌*◌, ◌/◌, ◌%◌, ◌<◌}
use Rattle.std.proofs.Common.{sym, ap, ap₂, ◌∙◌, mod-lt, not-suc-le-zero, le_of_suc-le-suc, zero-lt-suc, add-zero, zero-add, suc-add, arith, lit<, eq-eqb, eqb-true}
use Rattle.std.specs.Int.Bits.{bit_xor, xor_assoc, xor_self, xor_zero_r}
use Rattle.std.proofs.lemmas.Nat.{xor_comm, xor_lt, xor_block, xor_shr, xor_mod}
use Rattle.elements.specs.Laws.{Compares, Closed, Ring, Laws}
use Rattle.elements.specs.Octets.{Octet, when, double, times, product, squares, inverse, power, octets}
use Rattle.elements.specs.Tests.{agree}

-- (a + b) + (c + d) = (a + c) + (b + d)
swap : (a b c d : ℕ) → bit_xor (bit_xor a b) (bit_xor c d) ≡ bit_xor (bit_xor a c) (bit_xor b d)
swap a b c d =
    xor_assoc a b (bit_xor c d)
    ∙ ap (bit_xor a) (sym (xor_assoc b c d) ∙ ap (λ x. bit_xor x d) (xor_comm b c) ∙ xor_assoc c b d)
    ∙ sym (xor_assoc a c (bit_xor b d))

when_xor : (p q c : ℕ) → p < 2 → q < 2 → when (bit_xor p q) c ≡ bit_xor (when p c) (when q c)
when_xor zero q c hp hq = refl
when_xor (suc zero) zero c hp hq = sym (xor_zero_r c)
when_xor (suc zero) (suc zero) c hp hq = sym (xor_self c)
when_xor (suc zero) (suc (suc q)) c hp hq = absurd (not-suc-le-zero (le_of_suc-le-suc (le_of_suc-le-suc hq)))
when_xor (suc (suc p)) q c hp hq = absurd (not-suc-le-zero (le_of_suc-le-suc (le_of_suc-le-suc hp)))

when_add : (p a b : ℕ) → when p (bit_xor a b) ≡ bit_xor (when p a) (when p b)
when_add zero a b = refl
when_add (suc p) a b = refl

when_double : (p a : ℕ) → when p (double a) ≡ double (when p a)
unfolding double
when_double zero a = refl
when_double (suc p) a = refl

twice_xor : (a b : ℕ) → bit_xor a b * 2 ≡ bit_xor (a * 2) (b * 2)
twice_xor a b =
    sym (ap₂ bit_xor (sym (add-zero (a * 2))) (sym (add-zero (b * 2))) ∙ xor_block 1 a b 0 0 (lit< tt) (lit< tt) ∙ add-zero (bit_xor a b * 2))

top_xor : (a b : ℕ) → bit_xor a b / 128 % 2 ≡ bit_xor (a / 128 % 2) (b / 128 % 2)
top_xor a b = ap (λ n. n % 2) (xor_shr a b 7) ∙ xor_mod (a / 128) (b / 128) 1

pub double_xor : (a b : ℕ) → double (bit_xor a b) ≡ bit_xor (double a) (double b)
unfolding double
double_xor a b =
    ap₂ bit_xor
    (ap (λ n. n % 256) (twice_xor a b) ∙ xor_mod (a * 2) (b * 2) 8)
    (ap (λ n. when n 0x1d) (top_xor a b) ∙ when_xor (a / 128 % 2) (b / 128 % 2) 0x1d (mod-lt (a / 128) (zero-lt-suc 1)) (mod-lt (b / 128) (zero-lt-suc 1)))
    ∙ swap (a * 2 % 256) (b * 2 % 256) (when (a / 128 % 2) 0x1d) (when (b / 128 % 2) 0x1d)

when_below : (p c : ℕ) → c < 256 → when p c < 256
when_below zero c h = lit< tt
when_below (suc p) c h = h

pub double_below : (a : ℕ) → double a < 256
unfolding double
double_below a = xor_lt 8 (a * 2 % 256) (when (a / 128 % 2) 0x1d) (mod-lt (a * 2) (lit< tt)) (when_below (a / 128 % 2) 0x1d (lit< tt))

pub times_below : (k a b : ℕ) → a < 256 → times k a b < 256
unfolding times
times_below zero a b h = lit< tt
times_below (suc k) a b h = xor_lt 8 (when (b % 2) a) (double (times k a (b / 2))) (when_below (b % 2) a h) (double_below (times k a (b / 2)))

pub times_xor : (k a b c : ℕ) → times k (bit_xor a b) c ≡ bit_xor (times k a c) (times k b c)
unfolding times
times_xor zero a b c = refl
times_xor (suc k) a b c =
    ap₂ bit_xor (when_add (c % 2) a b) (ap double (times_xor k a b (c / 2)) ∙ double_xor (times k a (c / 2)) (times k b (c / 2)))
    ∙ swap (when (c % 2) a) (when (c % 2) b) (double (times k a (c / 2))) (double (times k b (c / 2)))

double_zero : double 0 ≡ 0
unfolding double
double_zero = refl

pub times_double : (k a b : ℕ) → times k (double a) b ≡ double (times k a b)
unfolding times
times_double zero a b = sym double_zero
times_double (suc k) a b =
    ap₂ bit_xor (when_double (b % 2) a) (ap double (times_double k a (b / 2)))
    ∙ sym (double_xor (when (b % 2) a) (double (times k a (b / 2))))

times_zero : (k b : ℕ) → times k 0 b ≡ 0
unfolding times
times_zero zero b = refl
times_zero (suc k) b = ap₂ bit_xor (zeros (b % 2)) (ap double (times_zero k (b / 2)) ∙ double_zero)
  where
    zeros : (p : ℕ) → when p 0 ≡ 0
    zeros zero = refl
    zeros (suc p) = refl

times_when : (j p a b : ℕ) → times j (when p a) b ≡ when p (times j a b)
times_when j zero a b = times_zero j b
times_when j (suc p) a b = refl

-- two multiplications commute
times_swap : (j k a b c : ℕ) → times k (times j a b) c ≡ times j (times k a c) b
unfolding times
times_swap j zero a b c = sym (times_zero j b)
times_swap j (suc k) a b c =
    ap₂ bit_xor (sym (times_when j (c % 2) a b)) (ap double (times_swap j k a b (c / 2)) ∙ sym (times_double j (times k a (c / 2)) b))
    ∙ sym (times_xor j (when (c % 2) a) (double (times k a (c / 2))) b)

-- computed at each octet
pub one_product : (b : ℕ) → b < 256 → product 1 b ≡ b
unfolding product times double
one_product b h = agree (λ b. times 8 1 b) (λ b. b) 256 tt b h

pub product_comm : (a b : ℕ) → a < 256 → b < 256 → product a b ≡ product b a
unfolding product
product_comm a b ha hb =
    ap (λ x. times 8 x b) (sym (one_product a ha)) ∙ times_swap 8 8 1 a b ∙ ap (λ x. times 8 x a) (one_product b hb)

pub product_assoc : (a b c : ℕ) → a < 256 → b < 256 → c < 256 → product (product a b) c ≡ product a (product b c)
unfolding product
product_assoc a b c ha hb hc =
    ap (λ x. times 8 x c) (product_comm a b ha hb) ∙ times_swap 8 8 b a c ∙ product_comm (product b c) a (times_below 8 b c hb) ha

pub product_inverse : (a : ℕ) → a < 255 → product (suc a) (inverse (suc a)) ≡ 1
unfolding product inverse squares times double
product_inverse a h = agree (λ a. product (suc a) (inverse (suc a))) (λ _. 1) 255 tt a h

pub product_below : (a b : ℕ) → a < 256 → product a b < 256
unfolding product
product_below a b h = times_below 8 a b h

squares_below : (k a : ℕ) → a < 256 → squares k a < 256
unfolding squares
squares_below zero a h = lit< tt
squares_below (suc k) a h = product_below (product a a) (squares k (product a a)) (product_below a a h)

pub inverse_below : (a : ℕ) → a < 256 → inverse a < 256
unfolding inverse
inverse_below a h = squares_below 7 a h

pub product_xor : (a b c : ℕ) → a < 256 → b < 256 → c < 256 → product a (bit_xor b c) ≡ bit_xor (product a b) (product a c)
unfolding product
product_xor a b c ha hb hc =
    product_comm a (bit_xor b c) ha (xor_lt 8 b c hb hc) ∙ times_xor 8 b c a ∙ ap₂ bit_xor (product_comm b a hb ha) (product_comm c a hc ha)

compares : Compares octets
compares = record { equal = eqb-true; alike = eq-eqb }

closed : Closed Octet octets
closed = record {
  zero = lit< tt;
  one = lit< tt;
  add = λ a b ha hb. xor_lt 8 a b ha hb;
  neg = λ a h. h;
  mul = λ a b ha hb. product_below a b ha;
}

ring : Ring Octet octets
ring = record {
  add_assoc = λ a b c _ _ _. xor_assoc a b c;
  add_comm = λ a b _ _. xor_comm a b;
  add-zero = λ a _. xor_zero_r a;
  add_neg = λ a _. xor_self a;
  mul_assoc = product_assoc;
  mul_comm = product_comm;
  mul-one = λ a h. product_comm a 1 h (lit< tt) ∙ one_product a h;
  mul-add = product_xor;
  one_apart = λ e. omega arith;
}

pub inverse_zero : inverse 0 ≡ 0
unfolding inverse squares product times double
inverse_zero = refl

mul_inv : (a : ℕ) → a < 256 → (a ≡ 0 → ⊥) → product a (inverse a) ≡ 1
mul_inv zero h n = absurd (n refl)
mul_inv (suc a) h n = product_inverse a (le_of_suc-le-suc h)

pub octets_laws : Laws Octet octets
octets_laws = record { compares = compares; closed = closed; ring = ring; inverses = record { inv_ok = inverse_below; inv_zero = inverse_zero; mul_inv = mul_inv } }

-- ---- the powers of x

pub power_below : (i : ℕ) → power i < 256
unfolding power
power_below zero = lit< tt
power_below (suc i) = double_below (power i)

pub product_power : (i j : ℕ) → product (power i) (power j) ≡ power (i + j)
unfolding power product
product_power zero j = one_product (power j) (power_below j) ∙ ap power (sym (zero-add j))
product_power (suc i) j = times_double 8 (power i) (power j) ∙ ap double (product_power i j) ∙ ap power (sym (suc-add i j))

pub product_zero : (a : ℕ) → product 0 a ≡ 0
unfolding product
product_zero a = times_zero 8 a

-- an inverse is the only one
pub inverse_is : (a b : ℕ) → a < 256 → b < 256 → (a ≡ 0 → ⊥) → product a b ≡ 1 → b ≡ inverse a
inverse_is a b ha hb n e =
    let hi = inverse_below a ha in
    sym (one_product b hb)
    ∙ ap (λ x. product x b) (sym (mul_inv a ha n) ∙ product_comm a (inverse a) ha hi)
    ∙ product_assoc (inverse a) a b hi ha hb
    ∙ ap (product (inverse a)) e ∙ product_comm (inverse a) 1 hi (lit< tt) ∙ one_product (inverse a) hi

pub power_255 : power 255 ≡ 1
unfolding power double
power_255 = refl
