-- Polynomials in k letters, by the coefficient at each monomial. The letters are 0 to k - 1, the highest first.
use Rattle.std.specs.Prelude.{ℕ, zero, suc}
use Rattle.domain.specs.Ring.{Ring}

-- a for the exponent 0, and f for the exponents above it
abbrev pub cons : {A : Type 0} → A → (ℕ → A) → ℕ → A
cons a f zero = a
cons a f (suc n) = f n

-- the sum of f i times g j over all i + j = n
abbrev pub product : {E : Type 0} (R : Ring E) → (ℕ → E) → (ℕ → E) → ℕ → E
product R f g zero = R.mul (f 0) (g 0)
product R f g (suc n) = R.add (R.mul (f 0) (g (suc n))) (product R (λ i. f (suc i)) g n)

-- one letter more: for each exponent of it a coefficient from R
abbrev pub Series : {E : Type 0} → Ring E → Ring (ℕ → E)
Series R = record {
  zero = λ n. R.zero;
  one = cons R.one (λ n. R.zero);
  add = λ f g n. R.add (f n) (g n);
  mul = product R;
  neg = λ f n. R.neg (f n);
}

-- A polynomial in no letter is an element. In one letter more, it has for each exponent of the first letter a polynomial
-- in the other letters. The type holds power series too; those of a diagram have only finitely many coefficients that are
-- not zero (`Bounded`).
abbrev pub Polynomial : Type 0 → ℕ → Type 0
Polynomial E zero = E
Polynomial E (suc k) = ℕ → Polynomial E k

-- their sum, product, negation, zero and one
abbrev pub Poly : {E : Type 0} → Ring E → (k : ℕ) → Ring (Polynomial E k)
Poly R zero = R
Poly R (suc k) = Series (Poly R k)

-- a polynomial without the first letter
abbrev pub embed : {E : Type 0} (R : Ring E) → E → ℕ → E
embed R a = cons a (λ n. R.zero)

-- an element as a polynomial
abbrev pub constant : {E : Type 0} (R : Ring E) (k : ℕ) → E → Polynomial E k
constant R zero a = a
constant R (suc k) a = embed (Poly R k) (constant R k a)

-- the letter x as a polynomial
abbrev pub letter : {E : Type 0} (R : Ring E) (k : ℕ) → ℕ → Polynomial E k
letter R zero x = R.zero
letter R (suc k) zero = cons (Poly R k).zero (Series (Poly R k)).one
letter R (suc k) (suc x) = embed (Poly R k) (letter R k x)

abbrev pub difference : {E : Type 0} (R : Ring E) (k : ℕ) → Polynomial E k → Polynomial E k → Polynomial E k
difference R k f g = (Poly R k).add f ((Poly R k).neg g)

-- an element times a polynomial
abbrev pub scaled : {E : Type 0} (R : Ring E) (k : ℕ) → E → Polynomial E k → Polynomial E k
scaled R k c f = (Poly R k).mul (constant R k c) f

-- f1 in f = f0 + x f1, where f0 has no x
abbrev pub down : {E : Type 0} (R : Ring E) (k : ℕ) → ℕ → Polynomial E k → Polynomial E k
down R zero x f = R.zero
down R (suc k) zero f = λ e. f (suc e)
down R (suc k) (suc x) f = λ e. down R k x (f e)
