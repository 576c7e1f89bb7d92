-- Mass: the sum of the sizes of the coefficients.
use Rattle.std.specs.Prelude.{◌≡◌, ℕ, zero, suc, ◌+◌, ◌<◌}
use Rattle.domain.specs.Model.{Model}
use Rattle.domain.specs.Ring.{Ring}
use Rattle.polynomial.specs.Polynomials.{Polynomial, Poly}

-- every coefficient with an exponent above d is zero
abbrev pub Bounded : {E : Type 0} → Ring E → (d k : ℕ) → Polynomial E k → Type 0
Bounded R d zero f = Unit {0}
Bounded R d (suc k) f = ((e : ℕ) → d < e → f e ≡ (Poly R k).zero) × ((e : ℕ) → Bounded R d k (f e))

-- the sum of g over 0 to d
abbrev pub total : (ℕ → ℕ) → ℕ → ℕ
total g zero = g 0
total g (suc d) = g 0 + total (λ e. g (suc e)) d

-- the sum of the sizes of the coefficients with no exponent above d; if f is bounded by d, the sum over all
abbrev pub mass : {E : Type 0} (M : Model E) (d k : ℕ) → Polynomial E k → ℕ
mass M d zero f = M.size f
mass M d (suc k) f = total (λ e. mass M d k (f e)) d
