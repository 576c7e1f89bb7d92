-- Constants as polynomials, and the values of references with the weights zero and one.
use Rattle.std.proofs.Common.{◌≡◌, ℕ, zero, suc, sym, refl, ap, ◌∙◌}
use Rattle.domain.specs.Ring.{Ring, Laws}
use Rattle.polynomial.specs.Polynomials.{cons, Poly, constant}
use Rattle.polynomial.specs.Trees.{Tree, meaning, value}
use Rattle.polynomial.proofs.Down.{constant-zero}
use Rattle.polynomial.proofs.Rings.{one-mul, zero-add, cancel, zero-mul}
use Rattle.polynomial.proofs.SeriesRing.{series_ext, poly_laws}

module _ {E : Type 0} {R : Ring E} (L : Laws R) where
  pub neg-zero : R.neg R.zero ≡ R.zero
  neg-zero = sym (zero-add L (R.neg R.zero)) ∙ L.add_neg R.zero

  pub neg-neg : (a : E) → R.neg (R.neg a) ≡ a
  neg-neg a = cancel L (R.neg a) (R.neg (R.neg a)) a (cc (L.add_neg (R.neg a), L.add_comm (R.neg a) a, L.add_neg a))

pub constant-neg : {E : Type 0} {R : Ring E} (L : Laws R) (k : ℕ) (a : E) → constant R k (R.neg a) ≡ (Poly R k).neg (constant R k a)
constant-neg L zero a = refl
constant-neg L (suc k) a = series_ext _ _ (constant-neg L k a) (λ n. sym (neg-zero (poly_laws L k)))

constant-one : {E : Type 0} (R : Ring E) (k : ℕ) → constant R k R.one ≡ (Poly R k).one
constant-one R zero = refl
constant-one R (suc k) = ap (λ c. cons c (λ n. (Poly R k).zero)) (constant-one R k)

module _ {E : Type 0} {R : Ring E} (L : Laws R) (k : ℕ) where
  pub value-zero : (t : Tree E) → value R k R.zero t ≡ (Poly R k).zero
  value-zero t = ap (λ c. (Poly R k).mul c (meaning R k t)) (constant-zero R k) ∙ zero-mul (poly_laws L k) (meaning R k t)

  pub value-one : (t : Tree E) → value R k R.one t ≡ meaning R k t
  value-one t = ap (λ c. (Poly R k).mul c (meaning R k t)) (constant-one R k) ∙ one-mul (poly_laws L k) (meaning R k t)
