-- A polynomial has one weight and one reduced tree.
use Rattle.std.proofs.Common.{◌≡◌, ℕ, ◌*◌, ◌≤◌, ◌≢◌, sym, refl, ap, ◌∙◌, subst, ap₂, inl, inr, le_trans, mul_assoc, mul-le-mul_left, mul-one, arith}
use native.Mathlib.Nat.{one-le-mul}
use native.Mathlib.Decide.{dec_lt}
use Rattle.domain.specs.Ring.{Ring, Laws}
use Rattle.polynomial.proofs.Shapes.{Determined}
use Rattle.polynomial.specs.Elements.{factor}
use Rattle.polynomial.specs.Polynomials.{Polynomial, Poly, constant, letter}
use Rattle.polynomial.specs.Trees.{Tree, leaf, node, After, Reduced, tree_mass, Lawful, meaning, value}
use Rattle.domain.specs.Model.{Model}
use Rattle.polynomial.proofs.ElementFacts.{Facts}
use Rattle.polynomial.proofs.Rings.{cancel}
use Rattle.polynomial.proofs.SeriesRing.{poly_laws}
use Rattle.polynomial.proofs.LetterRules.{Ordered, reduced_ordered, free_value, down_node, down-value, split}
use Rattle.polynomial.proofs.Down.{down, down-zero, constant_inj, one-zero, torsion}

module _ {E : Type 0} (M : Model E) (S : Facts M) where
  -- either every size is 0, or a reduced tree has a mass
  pub size_pos : ((a : E) → M.size a ≡ 0 → a ≡ M.ring.zero) → (a : E) → a ≢ M.ring.zero → 1 ≤ M.size a
  size_pos only a h = elim (dec_lt 0 (M.size a)) [ yes l ↦ l | no l ↦ absurd (h (only a (omega arith))) ]

  tree-mass-pos : ((a : E) → M.size a ≡ 0 → a ≡ M.ring.zero) → (k : ℕ) (t : Tree E) → Reduced M k t → 1 ≤ tree_mass M t
  tree-mass-pos only k leaf r = size_pos only M.ring.one (λ e. S.apart (sym e))
  tree-mass-pos only k (node x p m q n) r =
      let h : 1 ≤ M.size q * tree_mass M n = one-le-mul (size_pos only q r.leads) (tree-mass-pos only k n r.beside) in
      omega arith

  pub le-mass : (k : ℕ) (p : E) (t : Tree E) → Reduced M k t → M.size p ≤ M.size p * tree_mass M t
  le-mass k p t r =
      elim S.sizes [
        | inl all ↦ let e : M.size p ≡ 0 = all p in omega arith
        | inr only ↦ subst (λ s. s ≤ M.size p * tree_mass M t) (mul-one (M.size p)) (mul-le-mul_left (M.size p) (tree-mass-pos only k t r))
      ]

  module _ (k : ℕ) where
    abbrev pub P : Ring (Polynomial E k)
    P = Poly M.ring k

    abbrev pub PL : Laws P
    PL = poly_laws S.laws k

    pub nonzero : (t : Tree E) → Reduced M k t → meaning M.ring k t ≢ P.zero
    nonzero leaf r e = S.apart (sym (one-zero M.ring k e))
    nonzero (node x p m q n) r e =
        nonzero n r.beside (torsion M S k q r.leads (meaning M.ring k n)
        (sym (down_node S.laws k x p m q n (reduced_ordered M k (node x p m q n) r)) ∙ (ap (down M.ring k x) e ∙ down-zero S.laws k x)))

    pub high_nonzero : (x : ℕ) (p : E) (m : Tree E) (q : E) (n : Tree E) → Reduced M k (node x p m q n) → (v : E) → v ≢ M.ring.zero → down M.ring k x (value M.ring k v (node x p m q n)) ≢ P.zero
    high_nonzero x p m q n r v nz e =
        let z = sym (down-value S.laws k x p m q n (reduced_ordered M k (node x p m q n) r) v) ∙ e in
        nonzero n r.beside (torsion M S k (M.ring.mul v q) (λ f. r.leads (S.no_divisors v q f nz)) (meaning M.ring k n) z)

    -- a tree with an earlier letter is no tree without it
    pub differ : (x : ℕ) (p : E) (m : Tree E) (q : E) (n u : Tree E) → Reduced M k (node x p m q n) → Ordered k u → After x u → (v w : E) → v ≢ M.ring.zero → value M.ring k v (node x p m q n) ≡ value M.ring k w u → ⊥
    differ x p m q n u r s a v w nz e = high_nonzero x p m q n r v nz (ap (down M.ring k x) e ∙ free_value S.laws k x w u s a)

    module _ (x : ℕ) (p : E) (m : Tree E) (q : E) (n : Tree E) (r : Reduced M k (node x p m q n)) (v : E) (l : Lawful M v (node x p m q n)) where
      pub mass : v ≢ M.ring.zero
      mass e = let z : ◌≡◌ {A = ℕ} 0 1 = cc (l.bare e) in omega arith

      part_light : (a : E) (t : Tree E) → M.size a * tree_mass M t ≤ tree_mass M (node x p m q n) → M.size (M.ring.mul v a) * tree_mass M t ≤ M.limit
      part_light a t h =
          rw (S.size_mul v a, mul_assoc) (le_trans (mul-le-mul_left (M.size v) h) l.light)

      pub below_lawful : Lawful M (M.ring.mul v p) m
      below_lawful = record {
        bare = λ e. r.bare (S.no_divisors v p e mass);
        light = part_light p m (omega arith);
      }

      pub beside_lawful : Lawful M (M.ring.mul v q) n
      beside_lawful = record {
        bare = λ e. absurd (r.leads (S.no_divisors v q e mass));
        light = part_light q n (omega arith);
      }

      part_coded : (a : E) (t : Tree E) → Reduced M k t → Lawful M (M.ring.mul v a) t → M.size (M.ring.mul v a) ≤ M.limit
      part_coded a t s h = le_trans (le-mass k (M.ring.mul v a) t s) h.light

      -- the weight comes back as the factor of the parts
      refactored : factor M (M.ring.mul v p) (M.ring.mul v q) ≡ (v, p, q)
      refactored =
          S.factor_scale v p q r.coded_p r.coded_q r.leads mass (part_coded p m r.below below_lawful) (part_coded q n r.beside beside_lawful)
          ∙ rw (r.factored, S.laws.mul-one v)

    abbrev Agrees : Tree E → Tree E → Type 0
    Agrees t u =
        Reduced M k t → Reduced M k u → (v w : E) → Lawful M v t → Lawful M w u → value M.ring k v t ≡ value M.ring k w u → (v ≡ w) × (t ≡ u)

    module _ (x : ℕ) (p : E) (m : Tree E) (q : E) (n : Tree E) (p' : E) (m' : Tree E) (q' : E) (n' : Tree E) (on_m : Agrees m m') (on_n : Agrees n n') where
      same_letter : Agrees (node x p m q n) (node x p' m' q' n')
      same_letter r s v w lv lw e =
          let R = M.ring in
          let en : value R k (R.mul v q) n ≡ value R k (R.mul w q') n' =
          sym (down-value S.laws k x p m q n (reduced_ordered M k (node x p m q n) r) v) ∙ (ap (down R k x) e ∙ down-value S.laws k x p' m' q' n' (reduced_ordered M k (node x p' m' q' n') s) w) in
          let em : value R k (R.mul v p) m ≡ value R k (R.mul w p') m' =
          cancel PL (P.mul (letter R k x) (value R k (R.mul v q) n)) (value R k (R.mul v p) m) (value R k (R.mul w p') m')
          (cc (split S.laws k x p m q n v, split S.laws k x p' m' q' n' w, e, en)) in
          let hm = on_m r.below s.below (R.mul v p) (R.mul w p') (below_lawful x p m q n r v lv) (below_lawful x p' m' q' n' s w lw) em in
          let hn = on_n r.beside s.beside (R.mul v q) (R.mul w q') (beside_lawful x p m q n r v lv) (beside_lawful x p' m' q' n' s w lw) en in
          let f = sym (refactored x p m q n r v lv) ∙ (ap₂ (factor M) hm.0 hn.0 ∙ refactored x p' m' q' n' s w lw) in
          let ep : p ≡ p' = ap (λ t. t.1) f in
          let eq : q ≡ q' = ap (λ t. t.2) f in
          (ap (λ t. t.0) f, cc (ep, eq, hm.1, hn.1))

      agree : (y : ℕ) → Agrees (node x p m q n) (node y p' m' q' n')
      agree y r s v w lv lw e =
          elim (dec_lt x y) [
            | yes h ↦ absurd (differ x p m q n (node y p' m' q' n') r (reduced_ordered M k (node y p' m' q' n') s) h v w (mass x p m q n r v lv) e)
            | no h ↦ elim (dec_lt y x) [
              | yes g ↦ absurd (differ y p' m' q' n' (node x p m q n) s (reduced_ordered M k (node x p m q n) r) g w v (mass y p' m' q' n' s w lw) (sym e))
              | no g ↦ let xy : x ≡ y = omega arith in (subst (λ z. Agrees (node x p m q n) (node z p' m' q' n')) xy same_letter) r s v w lv lw e
            ]
          ]

    pub canonical : Determined M k
    canonical leaf leaf r s v w lv lw e = (constant_inj M.ring k v w (cc (PL.mul-one (constant M.ring k v), PL.mul-one (constant M.ring k w), e)), refl)
    canonical leaf (node y p' m' q' n') r s v w lv lw e = absurd (differ y p' m' q' n' leaf s tt tt w v (mass y p' m' q' n' s w lw) (sym e))
    canonical (node x p m q n) leaf r s v w lv lw e = absurd (differ x p m q n leaf r tt tt v w (mass x p m q n r v lv) e)
    canonical (node x p m q n) (node y p' m' q' n') r s v w lv lw e =
        agree x p m q n p' m' q' n' (canonical m m') (canonical n n') y r s v w lv lw e
