-- The coefficient at a monomial, by one way down through the entries.
use Rattle.std.proofs.Common.{◌≡◌, ℕ, zero, suc, ◌<◌, ◌≢◌, List, [], ◌∷◌, length, get_or, set, refl, ap, ◌∙◌, arith}
use Rattle.domain.specs.Model.{Model, Sound}
use Rattle.domain.specs.Ring.{Ring, Laws}
use Rattle.polynomial.specs.Coefficients.{coefficient}
use Rattle.polynomial.specs.Polynomials.{Polynomial, Poly, constant, letter, down}
use Rattle.polynomial.specs.Trees.{Tree, leaf, node, Reduced, value}
use Rattle.polynomial.proofs.CoefficientLaws.{coefficient_nought, coefficient-add}
use Rattle.polynomial.proofs.LetterRules.{down-value, split, reduced_ordered}
use Rattle.polynomial.proofs.Rings.{zero-add, zero-mul}
use Rattle.polynomial.proofs.SeriesRing.{embed-mul, poly_laws}
use Rattle.diagram.specs.Monomials.{Spent}

module _ {E : Type 0} {R : Ring E} (L : Laws R) where
  -- one letter less
  coefficient-down : (k x e : ℕ) (f : Polynomial E k) (u : List ℕ) → length u ≡ k → x < k → get_or u x 0 ≡ suc e → coefficient R k f u ≡ coefficient R k (down R k x f) (set u x e)
  coefficient-down zero x e f u l h q = absurd (omega arith)
  coefficient-down (suc k) x e f [] l h q = absurd (omega arith)
  coefficient-down (suc k) zero e f (a ∷ u) l h q = ap (λ (n : ℕ). coefficient R k (f n) u) q
  coefficient-down (suc k) (suc x) e f (a ∷ u) l h q = coefficient-down k x e (f a) u (omega arith) (omega arith) q

  -- a multiple of a letter has no coefficient without it
  coefficient-letter : (k x : ℕ) (h : Polynomial E k) (u : List ℕ) → length u ≡ k → x < k → get_or u x 0 ≡ 0 → coefficient R k ((Poly R k).mul (letter R k x) h) u ≡ R.zero
  coefficient-letter zero x h u l b q = absurd (omega arith)
  coefficient-letter (suc k) x h [] l b q = absurd (omega arith)
  coefficient-letter (suc k) zero h (a ∷ u) l b q =
      ap (λ (n : ℕ). coefficient R k ((Poly R (suc k)).mul (letter R (suc k) zero) h n) u) q
      ∙ (ap (λ g. coefficient R k g u) (zero-mul (poly_laws L k) (h 0)) ∙ coefficient_nought R k u)
  coefficient-letter (suc k) (suc x) h (a ∷ u) l b q =
      ap (λ g. coefficient R k g u) (embed-mul (poly_laws L k) (letter R k x) h a) ∙ coefficient-letter k x (h a) u (omega arith) (omega arith) q

  constant_spent : (k : ℕ) (c : E) (u : List ℕ) → length u ≡ k → Spent u → coefficient R k (constant R k c) u ≡ c
  constant_spent zero c u l s = refl
  constant_spent (suc k) c [] l s = absurd (omega arith)
  constant_spent (suc k) c (zero ∷ u) l s = constant_spent k c u (omega arith) (λ i h. s (suc i) (omega arith))
  constant_spent (suc k) c (suc a ∷ u) l s = absurd (let z = s 0 (omega arith) in omega (arith, z))

  constant_unspent : (k : ℕ) (c : E) (u : List ℕ) (i : ℕ) → length u ≡ k → i < k → get_or u i 0 ≢ 0 → coefficient R k (constant R k c) u ≡ R.zero
  constant_unspent zero c u i l h s = absurd (omega arith)
  constant_unspent (suc k) c [] i l h s = absurd (omega arith)
  constant_unspent (suc k) c (suc a ∷ u) i l h s = coefficient_nought R k u
  constant_unspent (suc k) c (zero ∷ u) zero l h s = absurd (s refl)
  constant_unspent (suc k) c (zero ∷ u) (suc i) l h s = constant_unspent k c u i (omega arith) (omega arith) s

module _ {E : Type 0} (M : Model E) (S : Sound M) (k : ℕ) (w : E) (u : List ℕ) (l : length u ≡ k) where
  pub leaf_spent : Spent u → coefficient M.ring k (value M.ring k w leaf) u ≡ w
  leaf_spent s = ap (λ f. coefficient M.ring k f u) ((poly_laws S.laws k).mul-one (constant M.ring k w)) ∙ constant_spent S.laws k w u l s

  pub leaf_unspent : (i : ℕ) → i < k → get_or u i 0 ≢ 0 → coefficient M.ring k (value M.ring k w leaf) u ≡ M.ring.zero
  leaf_unspent i h s = ap (λ f. coefficient M.ring k f u) ((poly_laws S.laws k).mul-one (constant M.ring k w)) ∙ constant_unspent S.laws k w u i l h s

  module _ (x : ℕ) (p : E) (m : Tree E) (q : E) (n : Tree E) (r : Reduced M k (node x p m q n)) where
    pub node_used : (e : ℕ) → get_or u x 0 ≡ suc e → coefficient M.ring k (value M.ring k w (node x p m q n)) u ≡ coefficient M.ring k (value M.ring k (M.ring.mul w q) n) (set u x e)
    node_used e h =
        coefficient-down S.laws k x e (value M.ring k w (node x p m q n)) u l r.known h
        ∙ ap (λ f. coefficient M.ring k f (set u x e)) (down-value S.laws k x p m q n (reduced_ordered M k (node x p m q n) r) w)

    pub node_unused : get_or u x 0 ≡ 0 → coefficient M.ring k (value M.ring k w (node x p m q n)) u ≡ coefficient M.ring k (value M.ring k (M.ring.mul w p) m) u
    node_unused h =
        let R = M.ring in
        let a = (Poly R k).mul (letter R k x) (value R k (R.mul w q) n) in
        let b = value R k (R.mul w p) m in
        ap (λ f. coefficient R k f u) (split S.laws k x p m q n w)
        ∙ (coefficient-add R k a b u
        ∙ (ap (λ z. R.add z (coefficient R k b u)) (coefficient-letter S.laws k x (value R k (R.mul w q) n) u l r.known h) ∙ zero-add S.laws (coefficient R k b u)))
