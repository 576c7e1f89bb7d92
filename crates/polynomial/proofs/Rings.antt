-- More that follows from the laws of a commutative ring.
use Rattle.std.proofs.Common.{◌≡◌, ◌∙◌}
use Rattle.domain.specs.Ring.{Ring, Laws}
pub use Rattle.domain.specs.Rings.{one-mul, zero-add, add-mul, mul_swap, add_swap, cancel, mul-zero}

module _ {E : Type 0} {R : Ring E} (L : Laws R) where
  pub zero-mul : (a : E) → R.mul R.zero a ≡ R.zero
  zero-mul a = L.mul_comm R.zero a ∙ mul-zero L a

  pub interchange : (a b c d : E) → R.add (R.add a b) (R.add c d) ≡ R.add (R.add a c) (R.add b d)
  interchange a b c d = cc (L.add_assoc a b (R.add c d), L.add_assoc a c (R.add b d), add_swap L b c d)
