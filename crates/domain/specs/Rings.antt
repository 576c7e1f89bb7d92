-- What follows from the laws of a commutative ring.
use Rattle.std.specs.Prelude.{◌≡◌}
use Rattle.std.proofs.Common.{◌∙◌}
use Rattle.domain.specs.Ring.{Ring, Laws}

module _ {E : Type 0} {R : Ring E} (L : Laws R) where
  pub one-mul : (a : E) → R.mul R.one a ≡ a
  one-mul a = L.mul_comm R.one a ∙ L.mul-one a

  pub zero-add : (a : E) → R.add R.zero a ≡ a
  zero-add a = L.add_comm R.zero a ∙ L.add-zero a

  pub add-mul : (a b c : E) → R.mul (R.add a b) c ≡ R.add (R.mul a c) (R.mul b c)
  add-mul a b c = cc (L.mul_comm (R.add a b) c, L.mul-add c a b, L.mul_comm c a, L.mul_comm c b)

  pub mul_swap : (a b c : E) → R.mul a (R.mul b c) ≡ R.mul b (R.mul a c)
  mul_swap a b c = cc (L.mul_assoc a b c, L.mul_comm a b, L.mul_assoc b a c)

  pub add_swap : (a b c : E) → R.add a (R.add b c) ≡ R.add b (R.add a c)
  add_swap a b c = cc (L.add_assoc a b c, L.add_comm a b, L.add_assoc b a c)

  pub cancel : (a b c : E) → R.add a b ≡ R.add a c → b ≡ c
  cancel a b c e = cc (strip b, strip c, e)
    where
      strip : (x : E) → R.add (R.neg a) (R.add a x) ≡ x
      strip x = cc (L.add_assoc (R.neg a) a x, L.add_comm (R.neg a) a, L.add_neg a, zero-add x)

  pub mul-zero : (a : E) → R.mul a R.zero ≡ R.zero
  mul-zero a = cancel (R.mul a R.zero) (R.mul a R.zero) R.zero (cc (L.mul-add a R.zero R.zero, L.add-zero R.zero, L.add-zero (R.mul a R.zero)))
