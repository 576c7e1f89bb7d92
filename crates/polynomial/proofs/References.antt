-- Every polynomial with a mass within the limit has a lawful reference.
use Rattle.std.proofs.Common.{◌≡◌, ℕ, zero, suc, ◌+◌, ◌*◌, ◌<◌, ◌≤◌, sym, refl, ap, ◌∙◌, ap₂, arith}
use Rattle.domain.specs.Ring.{Ring, Laws}
use Rattle.polynomial.proofs.Shapes.{Found}
use Rattle.polynomial.specs.Masses.{total, mass, Bounded}
use Rattle.polynomial.specs.Polynomials.{Polynomial, Series, Poly, embed, constant, letter}
use Rattle.polynomial.specs.Trees.{Tree, leaf, node, After, From, Reduced, tree_mass, meaning, make}
use Rattle.domain.specs.Model.{Model}
use Rattle.polynomial.proofs.ElementFacts.{Facts}
use Rattle.polynomial.proofs.Rings.{zero-add, mul-zero, zero-mul}
use Rattle.polynomial.proofs.SeriesRing.{series_ext, embed-mul, shift-mul, poly_laws}
use Rattle.polynomial.proofs.Making.{made}

abbrev shift : {E : Type 0} → Tree E → Tree E
shift leaf = leaf
shift (node x p m q n) = node (suc x) p (shift m) q (shift n)

shift_after : {E : Type 0} (x : ℕ) (t : Tree E) → After x t → After (suc x) (shift t)
shift_after x leaf a = tt
shift_after x (node y p m q n) a = omega arith

shift-first : {E : Type 0} (t : Tree E) → After 0 (shift t)
shift-first leaf = tt
shift-first (node y p m q n) = omega arith

shift_from : {E : Type 0} (x : ℕ) (t : Tree E) → From x t → From (suc x) (shift t)
shift_from x leaf a = tt
shift_from x (node y p m q n) a = omega arith

from_zero : {E : Type 0} (t : Tree E) → From 0 t
from_zero leaf = tt
from_zero (node y p m q n) = omega arith

module _ {E : Type 0} {R : Ring E} (L : Laws R) where
  embed-add : (a b : E) → (Series R).add (embed R a) (embed R b) ≡ embed R (R.add a b)
  embed-add a b = series_ext _ _ refl (λ e. L.add-zero R.zero)

  embed-times : (a b : E) → (Series R).mul (embed R a) (embed R b) ≡ embed R (R.mul a b)
  embed-times a b = series_ext _ _ refl (λ e. embed-mul L a (embed R b) (suc e) ∙ mul-zero L a)

module _ {E : Type 0} (M : Model E) (S : Facts M) where
  shift-mass : (t : Tree E) → tree_mass M (shift t) ≡ tree_mass M t
  shift-mass leaf = refl
  shift-mass (node x p m q n) = ap₂ (λ a b. M.size p * a + M.size q * b) (shift-mass m) (shift-mass n)

  shift_reduced : (k : ℕ) (t : Tree E) → Reduced M k t → Reduced M (suc k) (shift t)
  shift_reduced k leaf r = tt
  shift_reduced k (node x p m q n) r = record {
    known = omega (arith, r.known);
    after = shift_after x m r.after;
    from = shift_from x n r.from;
    leads = r.leads;
    bare = λ e. ap shift (r.bare e);
    coded_p = r.coded_p;
    coded_q = r.coded_q;
    factored = r.factored;
    below = shift_reduced k m r.below;
    beside = shift_reduced k n r.beside;
  }

  shift-meaning : (k : ℕ) (t : Tree E) → meaning M.ring (suc k) (shift t) ≡ embed (Poly M.ring k) (meaning M.ring k t)
  shift-meaning k leaf = refl
  shift-meaning k (node x p m q n) =
      let R = M.ring in
      let P = Poly R k in
      let L = poly_laws S.laws k in
      let cp = constant R k p in
      let cq = constant R k q in
      let fm = meaning R k m in
      let fn = meaning R k n in
      cc (shift-meaning k m, shift-meaning k n, embed-times L cp fm, embed-times L cq fn, embed-times L (letter R k x) (P.mul cq fn), embed-add L (P.mul cp fm) (P.mul (letter R k x) (P.mul cq fn)))

  pub one_leaf : (f : E) → M.size f * M.size M.ring.one ≡ M.size f
  one_leaf f = sym (S.size_mul f M.ring.one) ∙ ap M.size (S.laws.mul-one f)

  abbrev lift : (k : ℕ) (a : Polynomial E k) (s : ℕ) → Found M k a s → Found M (suc k) (embed (Poly M.ring k) a) s
  lift k a s r = record {
    w = r.w;
    t = shift r.t;
    reduced = shift_reduced k r.t r.reduced;
    lawful = record { bare = λ e. ap shift (r.lawful.bare e); light = omega (arith, r.lawful.light, ap (λ z. M.size r.w * z) (shift-mass r.t)) };
    means = ap ((Poly M.ring (suc k)).mul (constant M.ring (suc k) r.w)) (shift-meaning k r.t) ∙ (embed-times (poly_laws S.laws k) (constant M.ring k r.w) (meaning M.ring k r.t) ∙ ap (embed (Poly M.ring k)) r.means);
    weighs = ap (λ z. M.size r.w * z) (shift-mass r.t) ∙ r.weighs;
  }

  module _ (d : ℕ) where
    -- the exponents up to n of the top letter
    climb : (k : ℕ) → ((a : Polynomial E k) → Bounded M.ring d k a → mass M d k a ≤ M.limit → Found M k a (mass M d k a)) → (n : ℕ) (f : Polynomial E (suc k)) → ((e : ℕ) → n < e → f e ≡ (Poly M.ring k).zero) → ((e : ℕ) → Bounded M.ring d k (f e)) → total (λ e. mass M d k (f e)) n ≤ M.limit → Found M (suc k) f (total (λ e. mass M d k (f e)) n)
    climb k each zero f z b l =
        let r = lift k (f 0) (mass M d k (f 0)) (each (f 0) (b 0) l) in
        let e : embed (Poly M.ring k) (f 0) ≡ f = series_ext _ _ refl (λ e. sym (z (suc e) (omega arith))) in
        record { w = r.w; t = r.t; reduced = r.reduced; lawful = r.lawful; means = r.means ∙ e; weighs = r.weighs }
    climb k each (suc n) f z b l =
        let R = M.ring in
        let P = Poly R k in
        let L = poly_laws S.laws k in
        let g : Polynomial E (suc k) = λ e. f (suc e) in
        let low = each (f 0) (b 0) (omega arith) in
        let a = lift k (f 0) (mass M d k (f 0)) low in
        let c = climb k each n g (λ e h. z (suc e) (omega arith)) (λ e. b (suc e)) (omega arith) in
        let mk = made M S (suc k) 0 (omega arith) a.w a.t c.w c.t a.reduced c.reduced (shift-first low.t) (from_zero c.t) a.lawful c.lawful (omega (arith, a.weighs, c.weighs)) in
        let r = make M 0 a.w a.t c.w c.t in
        let joined : (Poly R (suc k)).add (embed P (f 0)) ((Poly R (suc k)).mul (letter R (suc k) 0) g) ≡ f =
        series_ext _ _ (cc (zero-mul L (g 0), L.add-zero (f 0))) (λ e. cc (shift-mul L g e, zero-add L (f (suc e)))) in
        record {
          w = r.0;
          t = r.1;
          reduced = mk.reduced;
          lawful = mk.lawful;
          means = mk.means ∙ (ap₂ (λ u v. (Poly R (suc k)).add u ((Poly R (suc k)).mul (letter R (suc k) 0) v)) a.means c.means ∙ joined);
          weighs = mk.weighs ∙ ap₂ ◌+◌ a.weighs c.weighs;
        }

    pub found : (k : ℕ) (f : Polynomial E k) → Bounded M.ring d k f → mass M d k f ≤ M.limit → Found M k f (mass M d k f)
    found zero f b l = record {
      w = f;
      t = leaf;
      reduced = tt;
      lawful = record { bare = λ e. refl; light = omega (arith, one_leaf f) };
      means = S.laws.mul-one f;
      weighs = one_leaf f;
    }
    found (suc k) f b l = climb k (found k) d f b.0 b.1 l
