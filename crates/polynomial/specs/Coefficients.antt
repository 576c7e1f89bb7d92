-- The coefficient at a monomial. A monomial is its row of exponents, one for each letter, the highest letter first;
-- exponents that a row leaves out are 0.
use Rattle.std.specs.Prelude.{ℕ, zero, suc, ◌+◌, List, [], ◌∷◌}
use Rattle.domain.specs.Ring.{Ring}
use Rattle.polynomial.specs.Polynomials.{Polynomial}

abbrev pub coefficient : {E : Type 0} (R : Ring E) (k : ℕ) → Polynomial E k → List ℕ → E
coefficient R zero f u = f
coefficient R (suc k) f [] = coefficient R k (f 0) []
coefficient R (suc k) f (e ∷ u) = coefficient R k (f e) u

-- the total power of a monomial
abbrev pub total_power : List ℕ → ℕ
total_power [] = 0
total_power (e ∷ u) = e + total_power u

-- the sum of h i j over all i + j = n
abbrev pub across : {E : Type 0} → Ring E → ℕ → (ℕ → ℕ → E) → E
across R zero h = h 0 0
across R (suc n) h = R.add (h 0 (suc n)) (across R n (λ i j. h (suc i) j))

-- the sum of h a b over all ways to split the monomial u into a times b
abbrev pub splits : {E : Type 0} → Ring E → List ℕ → (List ℕ → List ℕ → E) → E
splits R [] h = h [] []
splits R (e ∷ u) h = across R e (λ i j. splits R u (λ a b. h (i ∷ a) (j ∷ b)))
