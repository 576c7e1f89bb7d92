-- The trees that a polynomial needs are those in its reduced tree.
use Rattle.std.proofs.Common.{◌≡◌, ℕ, ◌*◌, ◌<◌, ◌≤◌, ◌≢◌, sym, refl, ap, ◌∙◌, subst, ap₂, inl, inr, zero-mul as zero-mul-ℕ, arith}
use native.Mathlib.Decide.{dec_lt}
use Rattle.domain.specs.Ring.{Ring, Laws}
use Rattle.polynomial.specs.Diagrams.{Inside}
use Rattle.polynomial.specs.Needs.{Splits, Part, whole, lo, hi, Needs}
use Rattle.polynomial.specs.Polynomials.{Polynomial, Poly, letter}
use Rattle.polynomial.specs.Trees.{Tree, leaf, node, After, From, Reduced, tree_mass, Lawful, meaning, value}
use Rattle.domain.specs.Model.{Model}
use Rattle.polynomial.proofs.ElementFacts.{Facts}
use Rattle.polynomial.proofs.Rings.{zero-add, mul-zero, zero-mul, cancel}
use Rattle.polynomial.proofs.SeriesRing.{poly_laws}
use Rattle.polynomial.proofs.Down.{down, down-add, down_other, down_same, constant-zero}
use Rattle.polynomial.proofs.LetterRules.{after_from, after_le, reduced_ordered, free_value, down-value, split}
use Rattle.polynomial.proofs.Canonicity.{canonical, high_nonzero, below_lawful, beside_lawful, mass as mass_nonzero}
use Rattle.polynomial.proofs.Minimality.{inside_node}

inside_whole : {E : Type 0} (s t : Tree E) → s ≢ leaf → s ≡ t → Inside s t
inside_whole s leaf h e = absurd (h e)
inside_whole s (node x p m q n) h e = inl e

module _ {E : Type 0} (M : Model E) (S : Facts M) (k : ℕ) where
  abbrev R : Ring E
  R = M.ring

  abbrev P : Ring (Polynomial E k)
  P = Poly M.ring k

  abbrev PL : Laws P
  PL = poly_laws S.laws k

  -- a lawful reference for f, with no tree but those in t
  record Ref (t : Tree E) (f : Polynomial E k) : Type 0 where
    w : E
    u : Tree E
    reduced : Reduced M k u
    lawful : Lawful M w u
    means : value R k w u ≡ f
    inside : (s : Tree E) → Inside s u → Inside s t

  nothing : (t : Tree E) (f : Polynomial E k) → f ≡ P.zero → Ref t f
  nothing t f e = record {
    w = R.zero;
    u = leaf;
    reduced = tt;
    lawful = record { bare = λ z. refl; light = let z = ap (λ s. s * tree_mass M leaf) S.size_zero ∙ zero-mul-ℕ (tree_mass M leaf) in omega arith };
    means = cc (e, constant-zero R k, zero-mul PL (meaning R k leaf));
    inside = λ s i. absurd i;
  }

  pub down_nonzero : (x : ℕ) (p : E) (m : Tree E) (q : E) (n : Tree E) → Reduced M k (node x p m q n) → (w : E) → Lawful M w (node x p m q n) → down R k x (value R k w (node x p m q n)) ≢ P.zero
  down_nonzero x p m q n r w l = high_nonzero M S k x p m q n r w (mass_nonzero M S k x p m q n r w l)

  module _ (x : ℕ) (f a h : Polynomial E k) (C : Splits R k x f a h) where
    -- the two parts are settled by f
    pub high_is : down R k x f ≡ h
    high_is =
        ap (down R k x) C.means ∙ (down-add S.laws k x (P.mul (letter R k x) h) a ∙ (ap₂ P.add (down_same S.laws k x C.known h) (C.low x (omega arith)) ∙ PL.add-zero h))

    low_none : h ≡ P.zero → f ≡ a
    low_none e = cc (C.means, e, mul-zero PL (letter R k x), zero-add PL a)

    pub early : (y : ℕ) → y < x → down R k y f ≡ P.zero
    early y l =
        ap (down R k y) C.means ∙ (down-add S.laws k y (P.mul (letter R k x) h) a ∙ (ap₂ P.add (down_other S.laws k y x l h ∙ (ap (P.mul (letter R k x)) (C.high y l) ∙ mul-zero PL (letter R k x))) (C.low y (omega arith)) ∙ PL.add-zero P.zero))

    refs : (t : Tree E) → Reduced M k t → (w : E) → Lawful M w t → value R k w t ≡ f → Ref t a × Ref t h
    refs leaf r w l e =
        let z : h ≡ P.zero = sym high_is ∙ (ap (down R k x) (sym e) ∙ free_value S.laws k x w leaf tt tt) in
        (record { w = w; u = leaf; reduced = tt; lawful = l; means = e ∙ low_none z; inside = λ s i. i }, nothing leaf h z)
    refs (node y p m q n) r w l e =
        let t = node y p m q n in
        let o = reduced_ordered M k t r in
        elim (dec_lt y x) [
          | yes g ↦ absurd (down_nonzero y p m q n r w l (ap (down R k y) e ∙ early y g))
          | no g ↦ elim (dec_lt x y) [
            | yes b ↦
                let z : h ≡ P.zero = sym high_is ∙ (ap (down R k x) (sym e) ∙ free_value S.laws k x w t o b) in
                (record { w = w; u = t; reduced = r; lawful = l; means = e ∙ low_none z; inside = λ s i. i }, nothing t h z)
            | no b ↦
                let xy : x ≡ y = omega arith in
                let eh : h ≡ value R k (R.mul w q) n = sym high_is ∙ (ap (λ z. down R k z f) xy ∙ (ap (down R k y) (sym e) ∙ down-value S.laws k y p m q n o w)) in
                let ea : a ≡ value R k (R.mul w p) m =
                cancel PL (P.mul (letter R k x) h) a (value R k (R.mul w p) m) (cc (C.means, e, split S.laws k y p m q n w, eh, xy)) in (
                  record { w = R.mul w p; u = m; reduced = r.below; lawful = below_lawful M S k y p m q n r w l; means = sym ea; inside = λ s i. inr (inl i) },
                  record { w = R.mul w q; u = n; reduced = r.beside; lawful = beside_lawful M S k y p m q n r w l; means = sym eh; inside = λ s i. inr (inr i) },
                )
          ]
        ]

  needs_in : (g : Polynomial E k) {f : Polynomial E k} → Part R k g f → (t : Tree E) → Reduced M k t → (w : E) → Lawful M w t → value R k w t ≡ f → (s : Tree E) → s ≢ leaf → Reduced M k s → (u : E) → Lawful M u s → value R k u s ≡ g → Inside s t
  needs_in g (whole f c) t r w l e s nl rs u ls es = inside_whole s t nl (canonical M S k s t rs r u w ls l (es ∙ sym (e ∙ c))).1
  needs_in g (lo x f a h C d) t r w l e s nl rs u ls es =
      let A = (refs x f a h C t r w l e).0 in
      A.inside s (needs_in g d A.u A.reduced A.w A.lawful A.means s nl rs u ls es)
  needs_in g (hi x f a h C d) t r w l e s nl rs u ls es =
      let A = (refs x f a h C t r w l e).1 in
      A.inside s (needs_in g d A.u A.reduced A.w A.lawful A.means s nl rs u ls es)

  pub needs_inside : (t : Tree E) → Reduced M k t → (w : E) → Lawful M w t → (s : Tree E) → Needs M k (value R k w t) s → Inside s t
  needs_inside t r w l s N = needs_in (value R k N.u s) N.part t r w l refl s N.node N.reduced N.u N.lawful refl

  pub node_splits : (x : ℕ) (p : E) (m : Tree E) (q : E) (n : Tree E) → Reduced M k (node x p m q n) → (w : E) → Splits R k x (value R k w (node x p m q n)) (value R k (R.mul w p) m) (value R k (R.mul w q) n)
  node_splits x p m q n r w = record {
    known = r.known;
    means = split S.laws k x p m q n w;
    low = λ y h. free_value S.laws k y (R.mul w p) m (reduced_ordered M k m r.below) (after_le x y h m r.after);
    high = λ y h. free_value S.laws k y (R.mul w q) n (reduced_ordered M k n r.beside) (after_from y x h n r.from);
  }

  pub inside_needs : (t : Tree E) → Reduced M k t → (w : E) → Lawful M w t → (s : Tree E) → Inside s t → Needs M k (value R k w t) s
  inside_needs leaf r w l s i = absurd i
  inside_needs (node x p m q n) r w l s (inl e) = record {
    u = w;
    node = inside_node s (node x p m q n) (inl e);
    reduced = subst (Reduced M k) (sym e) r;
    lawful = subst (Lawful M w) (sym e) l;
    part = whole _ (ap (value R k w) (sym e));
  }
  inside_needs (node x p m q n) r w l s (inr (inl i)) =
      let N = inside_needs m r.below (R.mul w p) (below_lawful M S k x p m q n r w l) s i in
      record { u = N.u; node = N.node; reduced = N.reduced; lawful = N.lawful; part = lo x _ _ _ (node_splits x p m q n r w) N.part }
  inside_needs (node x p m q n) r w l s (inr (inr i)) =
      let N = inside_needs n r.beside (R.mul w q) (beside_lawful M S k x p m q n r w l) s i in
      record { u = N.u; node = N.node; reduced = N.reduced; lawful = N.lawful; part = hi x _ _ _ (node_splits x p m q n r w) N.part }

module _ {E : Type 0} (M : Model E) (S : Facts M) (k x : ℕ) where
  -- a tree has no letter that its polynomial lacks
  pub after_of_free : (w : E) (t : Tree E) → Reduced M k t → Lawful M w t → ((y : ℕ) → y ≤ x → down M.ring k y (value M.ring k w t) ≡ (Poly M.ring k).zero) → After x t
  after_of_free w leaf r l h = tt
  after_of_free w (node y p m q n) r l h = elim (dec_lt x y) [ yes g ↦ g | no g ↦ absurd (down_nonzero M S k y p m q n r w l (h y (omega arith))) ]

  pub from-of_free : (w : E) (t : Tree E) → Reduced M k t → Lawful M w t → ((y : ℕ) → y < x → down M.ring k y (value M.ring k w t) ≡ (Poly M.ring k).zero) → From x t
  from-of_free w leaf r l h = tt
  from-of_free w (node y p m q n) r l h = elim (dec_lt y x) [ yes g ↦ absurd (down_nonzero M S k y p m q n r w l (h y g)) | no g ↦ omega arith ]
