-- The polynomial of a tree is bounded by the tree's height, and mass does not depend on the bound.
use Rattle.std.proofs.Common.{◌≡◌, ℕ, zero, suc, ◌+◌, ◌<◌, ◌≤◌, refl, ap, ◌∙◌, arith}
use Rattle.domain.specs.Model.{Model}
use Rattle.domain.specs.Ring.{Ring, Laws}
use Rattle.polynomial.specs.Masses.{Bounded, total, mass}
use Rattle.polynomial.specs.Polynomials.{Polynomial}
use Rattle.polynomial.specs.Trees.{Tree, height, meaning, value}
use Rattle.polynomial.proofs.ElementFacts.{Facts}
use Rattle.polynomial.proofs.TreeMasses.{Short, short_tree, short_const, mass-zero}

-- no coefficient at any exponent above d of any letter
bounded_of : {E : Type 0} (R : Ring E) (d k : ℕ) (f : Polynomial E k) → ((x e : ℕ) → d < e → Short R k x e f) → Bounded R d k f
bounded_of R d zero f h = tt
bounded_of R d (suc k) f h = (λ e l. h 0 e l, λ e. bounded_of R d k (f e) (λ x i l. h (suc x) i l e))

pub bounded_value : {E : Type 0} {R : Ring E} (L : Laws R) (k : ℕ) (w : E) (t : Tree E) → Bounded R (height t) k (value R k w t)
bounded_value {R} L k w t = bounded_of R (height t) k (value R k w t) (λ x e l. short_const L k x e w (meaning R k t) (short_tree L k x e t l))

-- what is zero past d adds nothing past d
total_past : (g : ℕ → ℕ) (d e : ℕ) → d ≤ e → ((i : ℕ) → d < i → g i ≡ 0) → total g e ≡ total g d
total_past g zero zero l z = refl
total_past g zero (suc e) l z = let r = total_none (λ i. g (suc i)) e (λ i. z (suc i) (omega arith)) in omega arith
  where
    total_none : (h : ℕ → ℕ) (n : ℕ) → ((i : ℕ) → h i ≡ 0) → total h n ≡ 0
    total_none h zero z = z 0
    total_none h (suc n) z = let r = total_none (λ i. h (suc i)) n (λ i. z (suc i)) in let s = z 0 in omega arith
total_past g (suc d) zero l z = absurd (omega arith)
total_past g (suc d) (suc e) l z = ap (λ (n : ℕ). g 0 + n) (total_past (λ i. g (suc i)) d e (omega arith) (λ i h. z (suc i) (omega arith)))

total_same : (g h : ℕ → ℕ) (d : ℕ) → ((i : ℕ) → g i ≡ h i) → total g d ≡ total h d
total_same g h zero e = e 0
total_same g h (suc d) e = let a = e 0 in let b = total_same (λ i. g (suc i)) (λ i. h (suc i)) d (λ i. e (suc i)) in omega arith

module _ {E : Type 0} (M : Model E) (S : Facts M) where
  pub mass_bound : (k d e : ℕ) (f : Polynomial E k) → Bounded M.ring d k f → d ≤ e → mass M e k f ≡ mass M d k f
  mass_bound zero d e f b l = refl
  mass_bound (suc k) d e f b l =
      total_past (λ i. mass M e k (f i)) d e l (λ i h. ap (mass M e k) (b.0 i h) ∙ mass-zero M S e k)
      ∙ total_same (λ i. mass M e k (f i)) (λ i. mass M d k (f i)) d (λ i. mass_bound k d e (f i) (b.1 i) l)
