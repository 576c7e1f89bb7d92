-- The laws of series in one letter, and so of polynomials in k letters.
use Rattle.std.proofs.Common.{◌≡◌, ℕ, zero, suc, refl, ◌∙◌}
use mathlib.Core.Path.{fun_ext}
use Rattle.domain.specs.Ring.{Ring, Laws}
use Rattle.polynomial.specs.Polynomials.{cons, product, Series, Poly, embed}
use Rattle.polynomial.proofs.Rings.{zero-add, mul-zero, zero-mul, interchange}

pub series_ext : {A : Type 0} (f g : ℕ → A) → f 0 ≡ g 0 → ((n : ℕ) → f (suc n) ≡ g (suc n)) → f ≡ g
series_ext f g a h = fun_ext at
  where
    at : (n : ℕ) → f n ≡ g n
    at zero = a
    at (suc n) = h n

module _ {E : Type 0} {R : Ring E} (L : Laws R) where
  product_end : (f g : ℕ → E) (n : ℕ) → product R f g (suc n) ≡ R.add (product R f (λ i. g (suc i)) n) (R.mul (f (suc n)) (g 0))
  product_end f g zero = refl
  product_end f g (suc n) =
      cc (product_end (λ i. f (suc i)) g n, L.add_assoc (R.mul (f 0) (g (suc (suc n)))) (product R (λ i. f (suc i)) (λ i. g (suc i)) n) (R.mul (f (suc (suc n))) (g 0)))

  product_comm : (f g : ℕ → E) (n : ℕ) → product R f g n ≡ product R g f n
  product_comm f g zero = L.mul_comm (f 0) (g 0)
  product_comm f g (suc n) =
      cc (product_end g f n, product_comm (λ i. f (suc i)) g n, L.mul_comm (f 0) (g (suc n)), L.add_comm (R.mul (f 0) (g (suc n))) (product R g (λ i. f (suc i)) n))

  product-add : (f g h : ℕ → E) (n : ℕ) → product R f (λ i. R.add (g i) (h i)) n ≡ R.add (product R f g n) (product R f h n)
  product-add f g h zero = L.mul-add (f 0) (g 0) (h 0)
  product-add f g h (suc n) =
      cc (
        L.mul-add (f 0) (g (suc n)) (h (suc n)),
        product-add (λ i. f (suc i)) g h n,
        interchange L (R.mul (f 0) (g (suc n))) (R.mul (f 0) (h (suc n))) (product R (λ i. f (suc i)) g n) (product R (λ i. f (suc i)) h n),
      )

  add-product : (f g h : ℕ → E) (n : ℕ) → product R (λ i. R.add (f i) (g i)) h n ≡ R.add (product R f h n) (product R g h n)
  add-product f g h n =
      product_comm (λ i. R.add (f i) (g i)) h n ∙ (product-add h f g n ∙ cc (product_comm h f n, product_comm h g n))

  scale_product : (c : E) (f g : ℕ → E) (n : ℕ) → product R (λ i. R.mul c (f i)) g n ≡ R.mul c (product R f g n)
  scale_product c f g zero = L.mul_assoc c (f 0) (g 0)
  scale_product c f g (suc n) =
      cc (L.mul_assoc c (f 0) (g (suc n)), scale_product c (λ i. f (suc i)) g n, L.mul-add c (R.mul (f 0) (g (suc n))) (product R (λ i. f (suc i)) g n))

  product_assoc : (f g h : ℕ → E) (n : ℕ) → product R (product R f g) h n ≡ product R f (product R g h) n
  product_assoc f g h zero = L.mul_assoc (f 0) (g 0) (h 0)
  product_assoc f g h (suc n) =
      cc (
        add-product (λ i. R.mul (f 0) (g (suc i))) (product R (λ i. f (suc i)) g) h n,
        scale_product (f 0) (λ i. g (suc i)) h n,
        product_assoc (λ i. f (suc i)) g h n,
        L.mul_assoc (f 0) (g 0) (h (suc n)),
        L.mul-add (f 0) (R.mul (g 0) (h (suc n))) (product R (λ i. g (suc i)) h n),
        L.add_assoc (R.mul (f 0) (R.mul (g 0) (h (suc n)))) (R.mul (f 0) (product R (λ i. g (suc i)) h n)) (product R (λ i. f (suc i)) (product R g h) n),
      )

  product-one : (f : ℕ → E) (n : ℕ) → product R f (Series R).one n ≡ f n
  product-one f zero = L.mul-one (f 0)
  product-one f (suc n) =
      cc (mul-zero L (f 0), product-one (λ i. f (suc i)) n, zero-add L (f (suc n)))

  pub series_laws : Laws (Series R)
  series_laws = record {
    add_assoc = λ f g h. fun_ext (λ n. L.add_assoc (f n) (g n) (h n));
    add_comm = λ f g. fun_ext (λ n. L.add_comm (f n) (g n));
    add-zero = λ f. fun_ext (λ n. L.add-zero (f n));
    add_neg = λ f. fun_ext (λ n. L.add_neg (f n));
    mul_assoc = λ f g h. fun_ext (product_assoc f g h);
    mul_comm = λ f g. fun_ext (product_comm f g);
    mul-one = λ f. fun_ext (product-one f);
    mul-add = λ f g h. fun_ext (product-add f g h);
  }

  pub zero-product : (f : ℕ → E) (n : ℕ) → product R (λ i. R.zero) f n ≡ R.zero
  zero-product f zero = zero-mul L (f 0)
  zero-product f (suc n) = cc (zero-mul L (f (suc n)), zero-product f n, zero-add L R.zero)

  -- a polynomial with no top letter multiplies each coefficient
  pub embed-mul : (a : E) (f : ℕ → E) (n : ℕ) → product R (embed R a) f n ≡ R.mul a (f n)
  embed-mul a f zero = refl
  embed-mul a f (suc n) = cc (zero-product f n, L.add-zero (R.mul a (f (suc n))))

  -- the top letter moves each coefficient up by one
  pub shift-mul : (f : ℕ → E) (n : ℕ) → product R (cons R.zero (Series R).one) f (suc n) ≡ f n
  shift-mul f n = cc (zero-mul L (f (suc n)), zero-add L (product R (Series R).one f n), product_comm (Series R).one f n, product-one f n)

pub poly_laws : {E : Type 0} {R : Ring E} → Laws R → (k : ℕ) → Laws (Poly R k)
poly_laws L zero = L
poly_laws L (suc k) = series_laws (poly_laws L k)
