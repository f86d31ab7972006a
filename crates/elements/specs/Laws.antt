-- A kind of element: its operations, and the laws that they keep at proper values.
use Rattle.std.specs.Prelude.{◌≡◌, Bool, true}

pub record Operations (E : Type 0) : Type 0 where
  pub zero : E
  pub one : E
  pub add : E → E → E
  pub neg : E → E
  pub mul : E → E → E
  pub inv : E → E
  pub same : E → E → Bool

-- each operation but the inverse answers a proper value at proper values
pub record Closed {E : Type 0} (ok : E → Type 0) (o : Operations E) : Type 0 where
  pub zero : ok o.zero
  pub one : ok o.one
  pub add : (a b : E) → ok a → ok b → ok (o.add a b)
  pub neg : (a : E) → ok a → ok (o.neg a)
  pub mul : (a b : E) → ok a → ok b → ok (o.mul a b)

-- the laws of a commutative ring in which one is not zero
pub record Ring {E : Type 0} (ok : E → Type 0) (o : Operations E) : Type 0 where
  pub add_assoc : (a b c : E) → ok a → ok b → ok c → o.add (o.add a b) c ≡ o.add a (o.add b c)
  pub add_comm : (a b : E) → ok a → ok b → o.add a b ≡ o.add b a
  pub add-zero : (a : E) → ok a → o.add a o.zero ≡ a
  pub add_neg : (a : E) → ok a → o.add a (o.neg a) ≡ o.zero
  pub mul_assoc : (a b c : E) → ok a → ok b → ok c → o.mul (o.mul a b) c ≡ o.mul a (o.mul b c)
  pub mul_comm : (a b : E) → ok a → ok b → o.mul a b ≡ o.mul b a
  pub mul-one : (a : E) → ok a → o.mul a o.one ≡ a
  pub mul-add : (a b c : E) → ok a → ok b → ok c → o.mul a (o.add b c) ≡ o.add (o.mul a b) (o.mul a c)
  pub one_apart : o.one ≡ o.zero → ⊥

-- every element but zero has an inverse; zero's is zero. A record of its own, so that a kind may do without.
pub record Inverses {E : Type 0} (ok : E → Type 0) (o : Operations E) : Type 0 where
  pub inv_ok : (a : E) → ok a → ok (o.inv a)
  pub inv_zero : o.inv o.zero ≡ o.zero
  pub mul_inv : (a : E) → ok a → (a ≡ o.zero → ⊥) → o.mul a (o.inv a) ≡ o.one

-- the comparison answers true just where the two are equal
pub record Compares {E : Type 0} (o : Operations E) : Type 0 where
  pub equal : (a b : E) → o.same a b ≡ true → a ≡ b
  pub alike : (a b : E) → a ≡ b → o.same a b ≡ true

pub record Laws {E : Type 0} (ok : E → Type 0) (o : Operations E) : Type 0 where
  pub compares : Compares o
  pub closed : Closed ok o
  pub ring : Ring ok o
  pub inverses : Inverses ok o
