-- Commutative rings, in which zero and one differ and only a zero factor gives the product zero.
use Rattle.std.specs.Prelude.{◌≡◌, ◌≢◌, ◌⊎◌}

pub record Ring (E : Type 0) : Type 0 where
  pub zero : E
  pub one : E
  pub add : E → E → E
  pub mul : E → E → E
  pub neg : E → E

pub record Laws {E : Type 0} (R : Ring E) : Type 0 where
  pub add_assoc : (a b c : E) → R.add (R.add a b) c ≡ R.add a (R.add b c)
  pub add_comm : (a b : E) → R.add a b ≡ R.add b a
  pub add-zero : (a : E) → R.add a R.zero ≡ a
  pub add_neg : (a : E) → R.add a (R.neg a) ≡ R.zero
  pub mul_assoc : (a b c : E) → R.mul (R.mul a b) c ≡ R.mul a (R.mul b c)
  pub mul_comm : (a b : E) → R.mul a b ≡ R.mul b a
  pub mul-one : (a : E) → R.mul a R.one ≡ a
  pub mul-add : (a b c : E) → R.mul a (R.add b c) ≡ R.add (R.mul a b) (R.mul a c)

pub record Integral {E : Type 0} (R : Ring E) : Type 0 where
  pub apart : R.zero ≢ R.one
  pub no_divisors : (a b : E) → R.mul a b ≡ R.zero → (a ≡ R.zero) ⊎ (b ≡ R.zero)
