-- No rival has fewer entries than a reduced tree has trees in it.
use Rattle.std.proofs.Common.{◌≡◌, ℕ, zero, suc, ◌+◌, ◌*◌, ◌<◌, ◌≤◌, ◌≢◌, ◌⊎◌, List, [], ◌∷◌, ◌++◌, length, sym, refl, ap, ◌∙◌, subst, inl, inr, mul-le-mul_right, mul_assoc, arith, length-append}
use native.Mathlib.Decide.{dec_lt}
use Rattle.domain.specs.Ring.{Ring, Laws}
use Rattle.polynomial.proofs.Shapes.{Found, ShapeAfter, Minimal}
use Rattle.polynomial.specs.Diagrams.{Inside}
use Rattle.polynomial.specs.Entries.{Entry, look, stands, trees_after, trees}
use Rattle.polynomial.specs.Lists.{Among}
use Rattle.polynomial.specs.Masses.{mass, Bounded}
use Rattle.polynomial.specs.Polynomials.{Polynomial, Poly, constant, letter}
use Rattle.polynomial.specs.Trees.{Tree, leaf, node, After, Reduced, height, Lawful, meaning, value}
use Rattle.domain.specs.Model.{Model}
use Rattle.polynomial.proofs.ElementFacts.{Facts}
use Rattle.polynomial.proofs.Rings.{zero-add, mul-zero, zero-mul, cancel}
use Rattle.polynomial.proofs.SeriesRing.{poly_laws}
use Rattle.polynomial.proofs.Down.{down, constant-mul, constant-zero, torsion}
use Rattle.polynomial.proofs.LetterRules.{Ordered, reduced_ordered, free_value, down-value, split}
use Rattle.polynomial.proofs.Canonicity.{size_pos, nonzero, differ, canonical, below_lawful, beside_lawful, mass as mass_nonzero}
use Rattle.polynomial.proofs.TreeMasses.{Short, short_tree, mass-value, mass_const, total-zero}
use Rattle.polynomial.proofs.References.{found}
use Rattle.polynomial.proofs.Pigeonhole.{among_left, among_right, among_either, fewer}

bounded : {E : Type 0} (R : Ring E) (d k : ℕ) (f : Polynomial E k) → ((x e : ℕ) → d < e → Short R k x e f) → Bounded R d k f
bounded R d zero f h = tt
bounded R d (suc k) f h = (λ e l. h 0 e l, λ e. bounded R d k (f e) (λ x i l. h (suc x) i l e))

pub inside_node : {E : Type 0} (s t : Tree E) → Inside s t → s ≢ leaf
inside_node s leaf h e = absurd h
inside_node s (node x p m q n) (inl h) e = let z : ◌≡◌ {A = ℕ} 0 1 = cc in omega arith
inside_node s (node x p m q n) (inr (inl h)) e = inside_node s m h e
inside_node s (node x p m q n) (inr (inr h)) e = inside_node s n h e

module _ {E : Type 0} (M : Model E) (S : Facts M) (k : ℕ) where
  abbrev R : Ring E
  R = M.ring

  abbrev P : Ring (Polynomial E k)
  P = Poly M.ring k

  abbrev PL : Laws P
  PL = poly_laws S.laws k

  pub inside_reduced : (s t : Tree E) → Reduced M k t → Inside s t → Reduced M k s
  inside_reduced s leaf r h = absurd h
  inside_reduced s (node x p m q n) r (inl h) = subst (Reduced M k) (sym h) r
  inside_reduced s (node x p m q n) r (inr (inl h)) = inside_reduced s m r.below h
  inside_reduced s (node x p m q n) r (inr (inr h)) = inside_reduced s n r.beside h

  -- one weight and s lawfully make a multiple of r
  pub record Seen (s r : Tree E) : Type 0 where
    pub u : E
    pub c : E
    pub node : s ≢ leaf
    pub reduced : Reduced M k s
    pub lawful : Lawful M u s
    pub agrees : value R k u s ≡ value R k c r

  value_nonzero : (u : E) (s : Tree E) → s ≢ leaf → Reduced M k s → Lawful M u s → value R k u s ≢ P.zero
  value_nonzero u s h r l e = nonzero M S k s r (torsion M S k u (λ z. h (l.bare z)) (meaning R k s) e)

  scale_nonzero : (s r : Tree E) (w : Seen s r) → w.c ≢ R.zero
  scale_nonzero s r w e =
      value_nonzero w.u s w.node w.reduced w.lawful (cc (w.agrees, e, constant-zero R k, zero-mul PL (meaning R k r)))

  weightless : (d j : ℕ) → ((a : E) → M.size a ≡ 0) → (f : Polynomial E j) → mass M d j f ≡ 0
  weightless d zero h f = h f
  weightless d (suc j) h f = total-zero _ d (λ e. weightless d j h (f e))

  mass_scale : (s r : Tree E) (w : Seen s r) (d : ℕ) → height s ≤ d → M.size w.c * mass M d k (meaning R k r) ≤ M.limit
  mass_scale s r w d h =
      omega (arith, mass_const M S d k w.c (meaning R k r), ap (mass M d k) w.agrees, mass-value M S d k w.u s w.reduced h, w.lawful.light)

  mass_fits : (s r : Tree E) (w : Seen s r) (d : ℕ) → height s ≤ d → mass M d k (meaning R k r) ≤ M.limit
  mass_fits s r w d h =
      elim S.sizes [
        | inl all ↦ omega (arith, weightless d k all (meaning R k r))
        | inr only ↦
            let f = mass M d k (meaning R k r) in
            let l : 1 * f ≤ M.size w.c * f = mul-le-mul_right f (size_pos M S only w.c (scale_nonzero s r w)) in
            omega (arith, mass_scale s r w d h)
      ]

  -- the tree that is found for r is the one that is seen
  is_found : (s r : Tree E) (w : Seen s r) (d : ℕ) → height s ≤ d → (F : Found M k (meaning R k r) (mass M d k (meaning R k r))) → s ≡ F.t
  is_found s r w d h F =
      (canonical M S k s F.t w.reduced F.reduced w.u (R.mul w.c F.w) w.lawful lawful
      (cc (w.agrees, F.means, PL.mul_assoc (constant R k w.c) (constant R k F.w) (meaning R k F.t), constant-mul S.laws k w.c F.w))).1
    where
      lawful : Lawful M (R.mul w.c F.w) F.t
      lawful = record {
        bare = λ e. F.lawful.bare (S.no_divisors w.c F.w e (scale_nonzero s r w));
        light = rw (S.size_mul w.c F.w, mul_assoc, F.weighs) (mass_scale s r w d h);
      }

  seen_once : (s t r : Tree E) → Seen s r → Seen t r → s ≡ t
  seen_once s t r v w =
      let d = height s + height t + height r in
      let b = bounded R d k (meaning R k r) (λ x e l. short_tree S.laws k x e r (omega arith)) in
      let F = found M S d k (meaning R k r) b (mass_fits s r v d (omega arith)) in
      is_found s r v d (omega arith) F ∙ sym (is_found t r w d (omega arith) F)

  -- a letter that s lacks: what is multiplied by it is nothing
  past : (s : Tree E) → Ordered k s → (u c : E) (y : ℕ) (p : E) (a : Tree E) (q : E) (b : Tree E) → Ordered k (node y p a q b) → After y s → value R k u s ≡ value R k c (node y p a q b) → value R k u s ≡ value R k (R.mul c p) a
  past s o u c y p a q b o' l e =
      let z : value R k (R.mul c q) b ≡ P.zero = sym (down-value S.laws k y p a q b o' c) ∙ (ap (down R k y) (sym e) ∙ free_value S.laws k y u s o l) in
      cc (e, split S.laws k y p a q b c, z, mul-zero PL (letter R k y), zero-add PL (value R k (R.mul c p) a))

  both : (x : ℕ) (p : E) (m : Tree E) (q : E) (n : Tree E) (p' : E) (a : Tree E) (q' : E) (b : Tree E) (u c : E) → Ordered k (node x p m q n) → Ordered k (node x p' a q' b) → value R k u (node x p m q n) ≡ value R k c (node x p' a q' b) → (value R k (R.mul u p) m ≡ value R k (R.mul c p') a) × (value R k (R.mul u q) n ≡ value R k (R.mul c q') b)
  both x p m q n p' a q' b u c o o' e =
      let en : value R k (R.mul u q) n ≡ value R k (R.mul c q') b = sym (down-value S.laws k x p m q n o u) ∙ (ap (down R k x) e ∙ down-value S.laws k x p' a q' b o' c) in
      (cancel PL (P.mul (letter R k x) (value R k (R.mul u q) n)) (value R k (R.mul u p) m) (value R k (R.mul c p') a) (cc (split S.laws k x p m q n u, split S.laws k x p' a q' b c, e, en)), en)

  pub absent : (x : ℕ) (p : E) (m : Tree E) (q : E) (n : Tree E) → Reduced M k (node x p m q n) → (u c : E) → Lawful M u (node x p m q n) → (r : Tree E) → Ordered k r → After x r → value R k u (node x p m q n) ≡ value R k c r → ⊥
  absent x p m q n d u c l r o a e = differ M S k x p m q n r d o a u c (mass_nonzero M S k x p m q n d u l) e

  -- each tree in t is seen at some tree in r
  cover : (r : Tree E) → Ordered k r → (t : Tree E) → Reduced M k t → (u c : E) → Lawful M u t → value R k u t ≡ value R k c r → (s : Tree E) → Inside s t → (r' : Tree E) × Inside r' r × Seen s r'
  cover leaf o leaf d u c l e s i = absurd i
  cover leaf o (node x p m q n) d u c l e s i = absurd (absent x p m q n d u c l leaf tt tt e)
  cover (node y p' a q' b) o leaf d u c l e s i = absurd i
  cover (node y p' a q' b) o (node x p m q n) d u c l e s i =
      let t = node x p m q n in
      let o_t = reduced_ordered M k t d in
      elim (dec_lt x y) [
        | yes h ↦ absurd (absent x p m q n d u c l (node y p' a q' b) o h e)
        | no h ↦ elim (dec_lt y x) [
          | yes g ↦
              let (r', j, w) = cover a o.3 t d u (R.mul c p') l (past t o_t u c y p' a q' b o g e) s i in
              (r', inr (inl j), w)
          | no g ↦
              let xy : x ≡ y = omega arith in
              let parts = subst (λ z. Ordered k (node z p' a q' b) → value R k u t ≡ value R k c (node z p' a q' b) → (value R k (R.mul u p) m ≡ value R k (R.mul c p') a) × (value R k (R.mul u q) n ≡ value R k (R.mul c q') b)) xy (both x p m q n p' a q' b u c o_t) o e in
              elim i [
                | inl h ↦ (
                  node y p' a q' b,
                  inl refl,
                  record {
                    u = u;
                    c = c;
                    node = inside_node s t (inl h);
                    reduced = inside_reduced s t d (inl h);
                    lawful = subst (Lawful M u) (sym h) l;
                    agrees = ap (value R k u) h ∙ e;
                  },
                )
                | inr (inl j) ↦
                    let (r', j', w) = cover a o.3 m d.below (R.mul u p) (R.mul c p') (below_lawful M S k x p m q n d u l) parts.0 s j in
                    (r', inr (inl j'), w)
                | inr (inr j) ↦
                    let (r', j', w) = cover b o.4 n d.beside (R.mul u q) (R.mul c q') (beside_lawful M S k x p m q n d u l) parts.1 s j in
                    (r', inr (inr j'), w)
              ]
        ]
      ]

-- the trees of a list of entries: each tree in one of them is one of them
abbrev Closed : {E : Type 0} → List (Tree E) → Type 0
Closed {E} ts = (s t : Tree E) → Among t ts → Inside s t → Among s ts

abbrev Each : {E : Type 0} → ℕ → List (Tree E) → Type 0
Each {E} k ts = (t : Tree E) → Among t ts → Ordered k t

pub look_among : {E : Type 0} (ts : List (Tree E)) (i : ℕ) → (look ts i ≡ leaf) ⊎ Among (look ts i) ts
look_among ts zero = inl refl
look_among [] (suc i) = inl refl
look_among (t ∷ ts) (suc zero) = inr (inl refl)
look_among (t ∷ ts) (suc (suc i)) = elim (look_among ts (suc i)) [ inl e ↦ inl e | inr a ↦ inr (inr a) ]

pub look_closed : {E : Type 0} (ts : List (Tree E)) → Closed ts → (i : ℕ) (s : Tree E) → Inside s (look ts i) → Among s ts
look_closed ts h i s j = elim (look_among ts i) [ inl e ↦ absurd (subst (Inside s) e j) | inr a ↦ h s (look ts i) a j ]

look_ordered : {E : Type 0} (k : ℕ) (ts : List (Tree E)) → Each k ts → (i : ℕ) → Ordered k (look ts i)
look_ordered k ts h i = elim (look_among ts i) [ inl e ↦ subst (Ordered k) (sym e) tt | inr a ↦ h (look ts i) a ]

closed_more : {E : Type 0} (ts : List (Tree E)) (e : Entry E) → Closed ts → Closed (ts ++ (stands ts e ∷ []))
closed_more ts e h s t a i = go (among_either t ts (stands ts e ∷ []) a)
  where
    here : Inside s (stands ts e) → Among s (ts ++ (stands ts e ∷ []))
    here (inl q) = among_right s ts (stands ts e ∷ []) (inl q)
    here (inr (inl j)) = among_left s ts (stands ts e ∷ []) (look_closed ts h e.lo s j)
    here (inr (inr j)) = among_left s ts (stands ts e ∷ []) (look_closed ts h e.hi s j)

    go : Among t ts ⊎ Among t (stands ts e ∷ []) → Among s (ts ++ (stands ts e ∷ []))
    go (inl b) = among_left s ts (stands ts e ∷ []) (h s t b i)
    go (inr (inl q)) = here (subst (Inside s) q i)
    go (inr (inr q)) = absurd q

pub closed_after : {E : Type 0} (es : List (Entry E)) (ts : List (Tree E)) → Closed ts → Closed (trees_after ts es)
closed_after [] ts h = h
closed_after (e ∷ es) ts h = closed_after es (ts ++ (stands ts e ∷ [])) (closed_more ts e h)

each_after : {E : Type 0} (k : ℕ) (es : List (Entry E)) (ts : List (Tree E)) → ShapeAfter k ts es → Each k ts → Each k (trees_after ts es)
each_after k [] ts r h = h
each_after {E} k (e ∷ es) ts r h = each_after k es (ts ++ (stands ts e ∷ [])) r.1 (λ t a. go t (among_either t ts (stands ts e ∷ []) a))
  where
    go : (t : Tree E) → Among t ts ⊎ Among t (stands ts e ∷ []) → Ordered k t
    go t (inl a) = h t a
    go t (inr (inl q)) = subst (Ordered k) (sym q) (r.0.known, r.0.after, r.0.from, look_ordered k ts h e.lo, look_ordered k ts h e.hi)
    go t (inr (inr q)) = absurd q

length_after : {E : Type 0} (es : List (Entry E)) (ts : List (Tree E)) → length (trees_after ts es) ≡ length ts + length es
length_after [] ts = omega arith
length_after (e ∷ es) ts = let i = length_after es (ts ++ (stands ts e ∷ [])) in let j = length-append ts (stands ts e ∷ []) in omega arith

pub length-trees : {E : Type 0} (es : List (Entry E)) → length (trees es) ≡ length es
length-trees es = let i = length_after es [] in omega arith

pub minimal : {E : Type 0} (M : Model E) (S : Facts M) (k : ℕ) → Minimal M k
minimal M S k t d w l ts D es v c r e =
    let all = trees es in
    let closed : Closed all = closed_after es [] (λ s t a. absurd a) in
    let each : Each k all = each_after k es [] v (λ t a. absurd a) in
    let le = fewer (Seen M S k) (λ a b y. seen_once M S k a b y) all ts D.distinct (λ s a.
    let (r', i, seen) = cover M S k (look all r) (look_ordered k all each r) t d w c l e s (D.inside s a) in
    (r', look_closed all closed r r' i, seen)) in
    omega (arith, length-trees es)
