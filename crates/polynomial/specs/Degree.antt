-- Degree: the highest total power with a coefficient that is not zero.
use Rattle.std.specs.Prelude.{◌≡◌, ℕ, ◌<◌, ◌≤◌, ◌≢◌, ◌⊎◌, List, length}
use Rattle.domain.specs.Ring.{Ring}
use Rattle.polynomial.specs.Coefficients.{coefficient, total_power}
use Rattle.polynomial.specs.Polynomials.{Polynomial}

-- some coefficient of total power d is not zero
abbrev pub Reaches : {E : Type 0} (R : Ring E) (k : ℕ) → Polynomial E k → ℕ → Type 0
Reaches R k f d = (u : List ℕ) × (length u ≤ k) × (total_power u ≡ d) × (coefficient R k f u ≢ R.zero)

-- every coefficient of total power above d is zero
abbrev pub Ends : {E : Type 0} (R : Ring E) (k : ℕ) → Polynomial E k → ℕ → Type 0
Ends R k f d = (u : List ℕ) → length u ≤ k → d < total_power u → coefficient R k f u ≡ R.zero

-- d is the degree of f; that of the zero polynomial is 0
pub record Degree {E : Type 0} (R : Ring E) (k : ℕ) (f : Polynomial E k) (d : ℕ) : Type 0 where
  pub ends : Ends R k f d
  pub reached : (d ≡ 0) ⊎ Reaches R k f d
