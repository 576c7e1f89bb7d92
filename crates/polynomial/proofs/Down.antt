-- The part of a polynomial with a letter, divided by that letter.
use Rattle.std.proofs.Common.{◌≡◌, ℕ, zero, suc, ◌<◌, ◌≢◌, sym, refl, ap, ◌∙◌, ap₂, arith}
use mathlib.Core.Path.{fun_ext}
use Rattle.domain.specs.Ring.{Ring, Laws}
use Rattle.polynomial.specs.Polynomials.{Polynomial, product, Poly, embed, constant, letter}
pub use Rattle.polynomial.specs.Polynomials.{down}
use Rattle.domain.specs.Model.{Model}
use Rattle.polynomial.proofs.ElementFacts.{Facts}
use Rattle.polynomial.proofs.Rings.{mul-zero}
use Rattle.polynomial.proofs.SeriesRing.{series_ext, embed-mul, shift-mul, poly_laws}

module _ {E : Type 0} {R : Ring E} (L : Laws R) where
  pub down-add : (k x : ℕ) (f g : Polynomial E k) → down R k x ((Poly R k).add f g) ≡ (Poly R k).add (down R k x f) (down R k x g)
  down-add zero x f g = sym (L.add-zero R.zero)
  down-add (suc k) zero f g = refl
  down-add (suc k) (suc x) f g = fun_ext (λ e. down-add k x (f e) (g e))

  pub down-zero : (k x : ℕ) → down R k x (Poly R k).zero ≡ (Poly R k).zero
  down-zero zero x = refl
  down-zero (suc k) zero = refl
  down-zero (suc k) (suc x) = fun_ext (λ e. down-zero k x)

  pub down-one : (k x : ℕ) → down R k x (Poly R k).one ≡ (Poly R k).zero
  down-one zero x = refl
  down-one (suc k) zero = refl
  down-one (suc k) (suc x) = series_ext _ _ (down-one k x) (λ e. down-zero k x)

  pub down_const : (k x : ℕ) (c : E) (f : Polynomial E k) → down R k x ((Poly R k).mul (constant R k c) f) ≡ (Poly R k).mul (constant R k c) (down R k x f)
  down_const zero x c f = sym (mul-zero L c)
  down_const (suc k) zero c f = fun_ext (λ e. embed-mul (poly_laws L k) (constant R k c) f (suc e) ∙ sym (embed-mul (poly_laws L k) (constant R k c) (λ i. f (suc i)) e))
  down_const (suc k) (suc x) c f =
      fun_ext (λ e. ap (down R k x) (embed-mul (poly_laws L k) (constant R k c) f e) ∙ (down_const k x c (f e) ∙ sym (embed-mul (poly_laws L k) (constant R k c) (λ i. down R k x (f i)) e)))

  pub down_other : (k x y : ℕ) → x < y → (f : Polynomial E k) → down R k x ((Poly R k).mul (letter R k y) f) ≡ (Poly R k).mul (letter R k y) (down R k x f)
  down_other zero x y h f = sym (mul-zero L R.zero)
  down_other (suc k) x zero h f = absurd (omega arith)
  down_other (suc k) zero (suc y) h f = fun_ext (λ e. embed-mul (poly_laws L k) (letter R k y) f (suc e) ∙ sym (embed-mul (poly_laws L k) (letter R k y) (λ i. f (suc i)) e))
  down_other (suc k) (suc x) (suc y) h f =
      fun_ext (λ e. ap (down R k x) (embed-mul (poly_laws L k) (letter R k y) f e) ∙ (down_other k x y (omega arith) (f e) ∙ sym (embed-mul (poly_laws L k) (letter R k y) (λ i. down R k x (f i)) e)))

  pub down_same : (k x : ℕ) → x < k → (f : Polynomial E k) → down R k x ((Poly R k).mul (letter R k x) f) ≡ f
  down_same zero x h f = absurd (omega arith)
  down_same (suc k) zero h f = fun_ext (shift-mul (poly_laws L k) f)
  down_same (suc k) (suc x) h f =
      fun_ext (λ e. ap (down R k x) (embed-mul (poly_laws L k) (letter R k x) f e) ∙ down_same k x (omega arith) (f e))

  pub constant-mul : (k : ℕ) (a b : E) → (Poly R k).mul (constant R k a) (constant R k b) ≡ constant R k (R.mul a b)
  constant-mul zero a b = refl
  constant-mul (suc k) a b =
      series_ext _ _ (constant-mul k a b) (λ e. embed-mul (poly_laws L k) (constant R k a) (constant R (suc k) b) (suc e) ∙ mul-zero (poly_laws L k) (constant R k a))

  down-product : (k x : ℕ) → ((a b : Polynomial E k) → down R k x a ≡ (Poly R k).zero → down R k x ((Poly R k).mul a b) ≡ (Poly R k).mul a (down R k x b)) → (f g : ℕ → Polynomial E k) → ((i : ℕ) → down R k x (f i) ≡ (Poly R k).zero) → (n : ℕ) → down R k x (product (Poly R k) f g n) ≡ product (Poly R k) f (λ i. down R k x (g i)) n
  down-product k x each f g h zero = each (f 0) (g 0) (h 0)
  down-product k x each f g h (suc n) =
      down-add k x ((Poly R k).mul (f 0) (g (suc n))) (product (Poly R k) (λ i. f (suc i)) g n)
      ∙ ap₂ (Poly R k).add (each (f 0) (g (suc n)) (h 0)) (down-product k x each (λ i. f (suc i)) g (λ i. h (suc i)) n)

  -- a factor without the letter stays
  pub down-mul : (k x : ℕ) (f g : Polynomial E k) → down R k x f ≡ (Poly R k).zero → down R k x ((Poly R k).mul f g) ≡ (Poly R k).mul f (down R k x g)
  down-mul zero x f g e = sym (mul-zero L f)
  down-mul (suc k) zero f g e =
      let P = Poly R k in
      let c : f ≡ embed P (f 0) = series_ext _ _ refl (λ n. ap (λ v. v n) e) in
      fun_ext (λ n. ap (λ v. product P v g (suc n)) c ∙ (embed-mul (poly_laws L k) (f 0) g (suc n) ∙ sym (ap (λ v. product P v (λ i. g (suc i)) n) c ∙ embed-mul (poly_laws L k) (f 0) (λ i. g (suc i)) n)))
  down-mul (suc k) (suc x) f g e = fun_ext (down-product k x (down-mul k x) f g (λ i. ap (λ v. v i) e))

  pub free_mul : (k x : ℕ) (f g : Polynomial E k) → down R k x f ≡ (Poly R k).zero → down R k x g ≡ (Poly R k).zero → down R k x ((Poly R k).mul f g) ≡ (Poly R k).zero
  free_mul k x f g e c = down-mul k x f g e ∙ (ap ((Poly R k).mul f) c ∙ mul-zero (poly_laws L k) f)

pub constant_inj : {E : Type 0} (R : Ring E) (k : ℕ) (a b : E) → constant R k a ≡ constant R k b → a ≡ b
constant_inj R zero a b e = e
constant_inj R (suc k) a b e = constant_inj R k a b (ap (λ f. f 0) e)

pub one-zero : {E : Type 0} (R : Ring E) (k : ℕ) → (Poly R k).one ≡ (Poly R k).zero → R.one ≡ R.zero
one-zero R zero e = e
one-zero R (suc k) e = one-zero R k (ap (λ f. f 0) e)

pub torsion : {E : Type 0} (M : Model E) (S : Facts M) (k : ℕ) (a : E) → a ≢ M.ring.zero → (f : Polynomial E k) → (Poly M.ring k).mul (constant M.ring k a) f ≡ (Poly M.ring k).zero → f ≡ (Poly M.ring k).zero
torsion M S zero a h f e = S.no_divisors a f e h
torsion M S (suc k) a h f e =
    fun_ext (λ i. torsion M S k a h (f i) (sym (embed-mul (poly_laws S.laws k) (constant M.ring k a) f i) ∙ ap (λ g. g i) e))

pub constant-zero : {E : Type 0} (R : Ring E) (k : ℕ) → constant R k R.zero ≡ (Poly R k).zero
constant-zero R zero = refl
constant-zero R (suc k) = series_ext _ _ (constant-zero R k) (λ e. refl)
