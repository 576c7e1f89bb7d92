-- The mass of a sum is at most the sum of the masses, and that of a product at most their product.
use Rattle.std.proofs.Common.{◌≡◌, ℕ, zero, suc, ◌+◌, ◌*◌, ◌≤◌, sym, refl, ap, ◌∙◌, le_trans, le_refl, add-le-add, add-mul, mul-le-mul_left, mul-add, arith}
use Rattle.domain.specs.Ring.{Ring}
use Rattle.polynomial.specs.Masses.{total, mass}
use Rattle.polynomial.specs.Polynomials.{Polynomial, product, Series, Poly}
use Rattle.domain.specs.Model.{Model}
use Rattle.polynomial.proofs.ElementFacts.{Facts}

pub record Norm {E : Type 0} (R : Ring E) (N : E → ℕ) : Type 0 where
  pub sum : (a b : E) → N (R.add a b) ≤ N a + N b
  pub prod : (a b : E) → N (R.mul a b) ≤ N a * N b

pub total-le : (g h : ℕ → ℕ) (d : ℕ) → ((e : ℕ) → g e ≤ h e) → total g d ≤ total h d
total-le g h zero l = l 0
total-le g h (suc d) l = add-le-add (l 0) (total-le (λ e. g (suc e)) (λ e. h (suc e)) d (λ e. l (suc e)))

pub total-add : (g h : ℕ → ℕ) (d : ℕ) → total (λ e. g e + h e) d ≡ total g d + total h d
total-add g h zero = refl
total-add g h (suc d) = let i : total (λ e. g (suc e) + h (suc e)) d ≡ total (λ e. g (suc e)) d + total (λ e. h (suc e)) d = total-add (λ e. g (suc e)) (λ e. h (suc e)) d in omega arith

pub total-mul : (c : ℕ) (g : ℕ → ℕ) (d : ℕ) → total (λ e. c * g e) d ≡ c * total g d
total-mul c g zero = refl
total-mul c g (suc d) = ap (λ s. c * g 0 + s) (total-mul c (λ e. g (suc e)) d) ∙ sym (mul-add c (g 0) (total (λ e. g (suc e)) d))

pub total_more : (g : ℕ → ℕ) (d : ℕ) → total g d ≤ total g (suc d)
total_more g zero = omega arith
total_more g (suc d) = let i : total (λ e. g (suc e)) d ≤ total (λ e. g (suc e)) (suc d) = total_more (λ e. g (suc e)) d in omega arith

module _ {E : Type 0} {R : Ring E} {N : E → ℕ} (norm : Norm R N) where
  total-product : (f g : ℕ → E) (d : ℕ) → total (λ e. N (product R f g e)) d ≤ total (λ e. N (f e)) d * total (λ e. N (g e)) d
  total-product f g zero = norm.prod (f 0) (g 0)
  total-product f g (suc d) =
      let f' : ℕ → E = λ e. f (suc e) in
      let Tf = total (λ e. N (f' e)) d in
      let Tg = total (λ e. N (g (suc e))) d in
      let a : N (R.mul (f 0) (g 0)) ≤ N (f 0) * N (g 0) = norm.prod (f 0) (g 0) in
      let b : total (λ e. N (product R f g (suc e))) d ≤ total (λ e. N (f 0) * N (g (suc e)) + N (product R f' g e)) d =
      total-le (λ e. N (product R f g (suc e))) (λ e. N (f 0) * N (g (suc e)) + N (product R f' g e)) d
      (λ e. le_trans (norm.sum (R.mul (f 0) (g (suc e))) (product R f' g e)) (add-le-add (norm.prod (f 0) (g (suc e))) (le_refl (N (product R f' g e))))) in
      let c = total-add (λ e. N (f 0) * N (g (suc e))) (λ e. N (product R f' g e)) d in
      let c' = total-mul (N (f 0)) (λ e. N (g (suc e))) d in
      let i : total (λ e. N (product R f' g e)) d ≤ Tf * total (λ e. N (g e)) d = total-product f' g d in
      let j : Tf * total (λ e. N (g e)) d ≤ Tf * (N (g 0) + Tg) = mul-le-mul_left Tf (total_more (λ e. N (g e)) d) in
      omega (arith, add-mul (N (f 0)) Tf (N (g 0) + Tg), mul-add (N (f 0)) (N (g 0)) Tg)

  series_norm : (d : ℕ) → Norm (Series R) (λ f. total (λ e. N (f e)) d)
  series_norm d = record {
    sum = λ f g. let h = total-le (λ e. N (R.add (f e) (g e))) (λ e. N (f e) + N (g e)) d (λ e. norm.sum (f e) (g e)) in omega (arith, total-add (λ e. N (f e)) (λ e. N (g e)) d);
    prod = λ f g. total-product f g d;
  }

pub mass_norm : {E : Type 0} (M : Model E) (S : Facts M) (d k : ℕ) → Norm (Poly M.ring k) (mass M d k)
mass_norm M S d zero = record { sum = S.size_add; prod = λ a b. omega (arith, S.size_mul a b) }
mass_norm M S d (suc k) = series_norm (mass_norm M S d k) d

pub mass-mul : {E : Type 0} (M : Model E) (S : Facts M) (d k : ℕ) (f g : Polynomial E k) → mass M d k ((Poly M.ring k).mul f g) ≤ mass M d k f * mass M d k g
mass-mul M S d k f g = (mass_norm M S d k).prod f g
