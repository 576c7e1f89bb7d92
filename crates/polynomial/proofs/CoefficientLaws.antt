-- Polynomials are told apart by their coefficients, and the coefficients of a sum and of a product.
use Rattle.std.proofs.Common.{◌≡◌, ℕ, zero, suc, ◌≤◌, List, [], ◌∷◌, length, refl, ap, ◌∙◌, arith}
use mathlib.Core.Path.{fun_ext}
use Rattle.domain.specs.Ring.{Ring, Laws}
use Rattle.polynomial.specs.Coefficients.{across, splits, coefficient}
use Rattle.polynomial.specs.Polynomials.{Polynomial, product, Poly, constant}
use Rattle.polynomial.proofs.SeriesRing.{embed-mul, poly_laws}

pub coefficient_ext : {E : Type 0} (R : Ring E) (k : ℕ) (f g : Polynomial E k) → ((u : List ℕ) → length u ≤ k → coefficient R k f u ≡ coefficient R k g u) → f ≡ g
coefficient_ext R zero f g h = h [] (omega arith)
coefficient_ext R (suc k) f g h = fun_ext (λ i. coefficient_ext R k (f i) (g i) (λ u l. h (i ∷ u) (omega arith)))

pub coefficient_nought : {E : Type 0} (R : Ring E) (k : ℕ) (u : List ℕ) → coefficient R k (Poly R k).zero u ≡ R.zero
coefficient_nought R zero u = refl
coefficient_nought R (suc k) [] = coefficient_nought R k []
coefficient_nought R (suc k) (i ∷ u) = coefficient_nought R k u

pub coefficient-neg : {E : Type 0} (R : Ring E) (k : ℕ) (f : Polynomial E k) (u : List ℕ) → coefficient R k ((Poly R k).neg f) u ≡ R.neg (coefficient R k f u)
coefficient-neg R zero f u = refl
coefficient-neg R (suc k) f [] = coefficient-neg R k (f 0) []
coefficient-neg R (suc k) f (i ∷ u) = coefficient-neg R k (f i) u

pub coefficient-add : {E : Type 0} (R : Ring E) (k : ℕ) (f g : Polynomial E k) (e : List ℕ) → coefficient R k ((Poly R k).add f g) e ≡ R.add (coefficient R k f e) (coefficient R k g e)
coefficient-add R zero f g e = refl
coefficient-add R (suc k) f g [] = coefficient-add R k (f 0) (g 0) []
coefficient-add R (suc k) f g (i ∷ e) = coefficient-add R k (f i) (g i) e

pub coefficient_scale : {E : Type 0} {R : Ring E} (L : Laws R) (k : ℕ) (c : E) (f : Polynomial E k) (e : List ℕ) → coefficient R k ((Poly R k).mul (constant R k c) f) e ≡ R.mul c (coefficient R k f e)
coefficient_scale L zero c f e = refl
coefficient_scale {R} L (suc k) c f [] = coefficient_scale L k c (f 0) []
coefficient_scale {R} L (suc k) c f (i ∷ e) = ap (λ g. coefficient R k g e) (embed-mul (poly_laws L k) (constant R k c) f i) ∙ coefficient_scale L k c (f i) e

product-across : {E : Type 0} (R : Ring E) (f g : ℕ → E) (n : ℕ) → product R f g n ≡ across R n (λ i j. R.mul (f i) (g j))
product-across R f g zero = refl
product-across R f g (suc n) = ap (R.add (R.mul (f 0) (g (suc n)))) (product-across R (λ i. f (suc i)) g n)

across_ext : {E : Type 0} (R : Ring E) (n : ℕ) (g h : ℕ → ℕ → E) → ((i j : ℕ) → g i j ≡ h i j) → across R n g ≡ across R n h
across_ext R n g h e = ap (across R n) (fun_ext (λ i. fun_ext (λ j. e i j)))

coefficient-across : {E : Type 0} (R : Ring E) (k : ℕ) (u : List ℕ) (n : ℕ) (h : ℕ → ℕ → Polynomial E k) → coefficient R k (across (Poly R k) n h) u ≡ across R n (λ i j. coefficient R k (h i j) u)
coefficient-across R k u zero h = refl
coefficient-across R k u (suc n) h =
    coefficient-add R k (h 0 (suc n)) (across (Poly R k) n (λ i j. h (suc i) j)) u ∙ ap (R.add (coefficient R k (h 0 (suc n)) u)) (coefficient-across R k u n (λ i j. h (suc i) j))

pub coefficient-mul : {E : Type 0} (R : Ring E) (k : ℕ) (f g : Polynomial E k) (u : List ℕ) → length u ≤ k → coefficient R k ((Poly R k).mul f g) u ≡ splits R u (λ a b. R.mul (coefficient R k f a) (coefficient R k g b))
coefficient-mul R zero f g [] h = refl
coefficient-mul R zero f g (e ∷ u) h = absurd (omega arith)
coefficient-mul R (suc k) f g [] h = coefficient-mul R k (f 0) (g 0) [] (omega arith)
coefficient-mul R (suc k) f g (e ∷ u) h =
    ap (λ c. coefficient R k c u) (product-across (Poly R k) f g e) ∙ (coefficient-across R k u e (λ i j. (Poly R k).mul (f i) (g j))
    ∙ across_ext R e _ _ (λ i j. coefficient-mul R k (f i) (g j) u (omega arith)))
