-- The rules that bring both sides of an identity of commutative rings to one form.
use Rattle.std.proofs.Common.{◌≡◌}
use Rattle.domain.specs.Ring.{Ring, Laws}
pub use Rattle.polynomial.proofs.Rings.{add-mul, add_swap, mul_swap}

module _ {E : Type 0} {R : Ring E} (L : Laws R) where
  pub mul_assoc : (a b c : E) → R.mul (R.mul a b) c ≡ R.mul a (R.mul b c)
  mul_assoc = L.mul_assoc

  pub mul_comm : (a b : E) → R.mul a b ≡ R.mul b a
  mul_comm = L.mul_comm

  pub add_assoc : (a b c : E) → R.add (R.add a b) c ≡ R.add a (R.add b c)
  add_assoc = L.add_assoc

  pub add_comm : (a b : E) → R.add a b ≡ R.add b a
  add_comm = L.add_comm

  pub mul-add : (a b c : E) → R.mul a (R.add b c) ≡ R.add (R.mul a b) (R.mul a c)
  mul-add = L.mul-add

pub ruleset ringy = (mul-add, add-mul, add_assoc, mul_assoc, mul_comm, mul_swap, add_comm, add_swap)
