-- The mass of what a reduced tree stands for can be read off the tree.
use Rattle.std.proofs.Common.{◌≡◌, ℕ, zero, suc, ◌+◌, ◌*◌, ◌<◌, ◌≤◌, ◌≢◌, refl, ap, ◌∙◌, subst, ap₂, arith}
use mathlib.Core.Path.{fun_ext}
use native.Mathlib.Decide.{ℕ_discrete}
use Rattle.domain.specs.Ring.{Ring, Laws}
use Rattle.polynomial.specs.Masses.{total, mass}
use Rattle.polynomial.specs.Polynomials.{Polynomial, Poly, constant, letter}
use Rattle.polynomial.specs.Trees.{Tree, leaf, node, Reduced, tree_mass, height, meaning, value}
use Rattle.domain.specs.Model.{Model}
use Rattle.polynomial.proofs.ElementFacts.{Facts}
use Rattle.polynomial.proofs.Rings.{zero-add, mul-zero, zero-mul}
use Rattle.polynomial.proofs.SeriesRing.{embed-mul, shift-mul, poly_laws}
use Rattle.polynomial.proofs.Down.{down, down_const}
use Rattle.polynomial.proofs.LetterRules.{reduced_ordered, free}
use Rattle.polynomial.proofs.MassLaws.{total-add, total-mul, mass_norm}

-- no coefficient at the exponent d of the letter x
abbrev pub Short : {E : Type 0} → Ring E → (k x d : ℕ) → Polynomial E k → Type 0
Short R zero x d f = Unit {0}
Short R (suc k) zero d f = f d ≡ (Poly R k).zero
Short R (suc k) (suc x) d f = (e : ℕ) → Short R k x d (f e)

module _ {E : Type 0} {R : Ring E} (L : Laws R) where
  short_add : (k x d : ℕ) (f g : Polynomial E k) → Short R k x d f → Short R k x d g → Short R k x d ((Poly R k).add f g)
  short_add zero x d f g s t = tt
  short_add (suc k) zero d f g s t = cc (s, t, (poly_laws L k).add-zero (Poly R k).zero)
  short_add (suc k) (suc x) d f g s t = λ e. short_add k x d (f e) (g e) (s e) (t e)

  short_zero : (k x d : ℕ) → Short R k x d (Poly R k).zero
  short_zero zero x d = tt
  short_zero (suc k) zero d = refl
  short_zero (suc k) (suc x) d = λ e. short_zero k x d

  pub short_const : (k x d : ℕ) (c : E) (f : Polynomial E k) → Short R k x d f → Short R k x d ((Poly R k).mul (constant R k c) f)
  short_const zero x d c f s = tt
  short_const (suc k) zero d c f s = embed-mul (poly_laws L k) (constant R k c) f d ∙ (ap ((Poly R k).mul (constant R k c)) s ∙ mul-zero (poly_laws L k) (constant R k c))
  short_const (suc k) (suc x) d c f s = λ e. rw (embed-mul (poly_laws L k) (constant R k c) f e) (short_const k x d c (f e) (s e))

  short_one : (k x d : ℕ) → Short R k x (suc d) (Poly R k).one
  short_one zero x d = tt
  short_one (suc k) zero d = refl
  short_one (suc k) (suc x) d = at (short_one k x d)
    where
      at : Short R k x (suc d) (Poly R k).one → (e : ℕ) → Short R k x (suc d) ((Poly R (suc k)).one e)
      at h zero = h
      at h (suc e) = short_zero k x (suc d)

  -- the letter x itself moves d up; another letter leaves it
  short_same : (k x d : ℕ) (f : Polynomial E k) → Short R k x d f → Short R k x (suc d) ((Poly R k).mul (letter R k x) f)
  short_same zero x d f s = tt
  short_same (suc k) zero d f s = shift-mul (poly_laws L k) f d ∙ s
  short_same (suc k) (suc x) d f s = λ e. rw (embed-mul (poly_laws L k) (letter R k x) f e) (short_same k x d (f e) (s e))

  short_other : (k x y d : ℕ) → x ≢ y → (f : Polynomial E k) → Short R k x d f → Short R k x d ((Poly R k).mul (letter R k y) f)
  short_other zero x y d h f s = tt
  short_other (suc k) zero zero d h f s = absurd (h refl)
  short_other (suc k) zero (suc y) d h f s = embed-mul (poly_laws L k) (letter R k y) f d ∙ (ap ((Poly R k).mul (letter R k y)) s ∙ mul-zero (poly_laws L k) (letter R k y))
  short_other (suc k) (suc x) zero d h f s = at
    where
      at : (e : ℕ) → Short R k x d ((Poly R (suc k)).mul (letter R (suc k) zero) f e)
      at zero = rw (zero-mul (poly_laws L k) (f 0)) (short_zero k x d)
      at (suc e) = rw (shift-mul (poly_laws L k) f e) (s e)
  short_other (suc k) (suc x) (suc y) d h f s = λ e. rw (embed-mul (poly_laws L k) (letter R k y) f e) (short_other k x y d (λ p. h (ap suc p)) (f e) (s e))

  pub short_tree : (k x d : ℕ) (t : Tree E) → height t < d → Short R k x d (meaning R k t)
  short_tree k x zero t h = absurd (omega arith)
  short_tree k x (suc d) leaf h = short_one k x d
  short_tree k x (suc d) (node y p m q n) h =
      let g = (Poly R k).mul (constant R k q) (meaning R k n) in
      short_add k x (suc d) _ _ (short_const k x (suc d) p (meaning R k m) (short_tree k x (suc d) m (omega arith))) (elim (ℕ_discrete x y) [
        | yes e ↦ subst (λ z. Short R k x (suc d) ((Poly R k).mul (letter R k z) g)) e (short_same k x d g (short_const k x d q (meaning R k n) (short_tree k x d n (omega arith))))
        | no e ↦ short_other k x y (suc d) e g (short_const k x (suc d) q (meaning R k n) (short_tree k x (suc d) n (omega arith)))
      ])

pub total-zero : (g : ℕ → ℕ) (d : ℕ) → ((e : ℕ) → g e ≡ 0) → total g d ≡ 0
total-zero g zero h = h 0
total-zero g (suc d) h = let i = total-zero (λ e. g (suc e)) d (λ e. h (suc e)) in let j = h 0 in omega arith

total_end : (g : ℕ → ℕ) (d : ℕ) → total g (suc d) ≡ total g d + g (suc d)
total_end g zero = refl
total_end g (suc d) = let i = total_end (λ e. g (suc e)) d in omega arith

total_head : (g : ℕ → ℕ) (d : ℕ) → ((e : ℕ) → g (suc e) ≡ 0) → total g d ≡ g 0
total_head g zero h = refl
total_head g (suc d) h = let i = total-zero (λ e. g (suc e)) d h in omega arith

total-shift : (u v w : ℕ → ℕ) (d : ℕ) → w 0 ≡ u 0 → ((e : ℕ) → w (suc e) ≡ v e) → ((e : ℕ) → u (suc e) ≡ 0) → v d ≡ 0 → total w d ≡ total u d + total v d
total-shift u v w zero a b c e = omega arith
total-shift u v w (suc d) a b c e =
    let i = total-zero (λ j. u (suc j)) d c in
    let j = total_end v d in
    let l : total (λ i. w (suc i)) d ≡ total v d = ap (λ z. total z d) (fun_ext b) in
    omega arith

module _ {E : Type 0} (M : Model E) (S : Facts M) (d : ℕ) where
  pub mass-zero : (k : ℕ) → mass M d k (Poly M.ring k).zero ≡ 0
  mass-zero zero = S.size_zero
  mass-zero (suc k) = total-zero _ d (λ e. mass-zero k)

  pub mass_const : (k : ℕ) (c : E) (f : Polynomial E k) → mass M d k ((Poly M.ring k).mul (constant M.ring k c) f) ≡ M.size c * mass M d k f
  mass_const zero c f = S.size_mul c f
  mass_const (suc k) c f =
      ap (λ g. total g d) (fun_ext (λ e. ap (mass M d k) (embed-mul (poly_laws S.laws k) (constant M.ring k c) f e) ∙ mass_const k c (f e))) ∙ total-mul (M.size c) (λ e. mass M d k (f e)) d

  mass-one : (k : ℕ) → mass M d k (Poly M.ring k).one ≡ M.size M.ring.one
  mass-one zero = refl
  mass-one (suc k) = total_head (λ e. mass M d k ((Poly M.ring (suc k)).one e)) d (λ e. mass-zero k) ∙ mass-one k

  mass-split : (k x : ℕ) → x < k → (f g : Polynomial E k) → down M.ring k x f ≡ (Poly M.ring k).zero → Short M.ring k x d g → mass M d k ((Poly M.ring k).add f ((Poly M.ring k).mul (letter M.ring k x) g)) ≡ mass M d k f + mass M d k g
  mass-split zero x h f g e s = absurd (omega arith)
  mass-split (suc k) zero h f g e s =
      let R = M.ring in
      let PL = poly_laws S.laws k in
      total-shift (λ i. mass M d k (f i)) (λ i. mass M d k (g i)) (λ i. mass M d k ((Poly R (suc k)).add f ((Poly R (suc k)).mul (letter R (suc k) zero) g) i)) d
      (ap (mass M d k) (cc (zero-mul PL (g 0), PL.add-zero (f 0))))
      (λ i. ap (mass M d k) (cc (shift-mul PL g i, ap (λ v. v i) e, zero-add PL (g i))))
      (λ i. ap (mass M d k) (ap (λ v. v i) e) ∙ mass-zero k)
      (ap (mass M d k) s ∙ mass-zero k)
  mass-split (suc k) (suc x) h f g e s =
      let R = M.ring in
      ap (λ v. total v d) (fun_ext (λ i. ap (λ v. mass M d k ((Poly R k).add (f i) v)) (embed-mul (poly_laws S.laws k) (letter R k x) g i) ∙ mass-split k x (omega arith) (f i) (g i) (ap (λ v. v i) e) (s i)))
      ∙ total-add (λ i. mass M d k (f i)) (λ i. mass M d k (g i)) d

  pub mass-tree : (k : ℕ) (t : Tree E) → Reduced M k t → height t ≤ d → mass M d k (meaning M.ring k t) ≡ tree_mass M t
  mass-tree k leaf r h = mass-one k
  mass-tree k (node x p m q n) r h =
      let R = M.ring in
      let f = (Poly R k).mul (constant R k p) (meaning R k m) in
      let g = (Poly R k).mul (constant R k q) (meaning R k n) in
      mass-split k x r.known f g
      (down_const S.laws k x p (meaning R k m) ∙ (ap ((Poly R k).mul (constant R k p)) (free S.laws k x m (reduced_ordered M k m r.below) r.after) ∙ mul-zero (poly_laws S.laws k) (constant R k p)))
      (short_const S.laws k x d q (meaning R k n) (short_tree S.laws k x d n (omega arith)))
      ∙ cc (mass_const k p (meaning R k m), mass_const k q (meaning R k n), mass-tree k m r.below (omega arith), mass-tree k n r.beside (omega arith))

module _ {E : Type 0} (M : Model E) (S : Facts M) where
  pub mass-value : (d k : ℕ) (v : E) (t : Tree E) → Reduced M k t → height t ≤ d → mass M d k (value M.ring k v t) ≡ M.size v * tree_mass M t
  mass-value d k v t r h = mass_const M S d k v (meaning M.ring k t) ∙ ap (λ z. M.size v * z) (mass-tree M S d k t r h)

  pub tree-mass-add : (k : ℕ) (v w z : E) (t s u : Tree E) → Reduced M k t → Reduced M k s → Reduced M k u → value M.ring k v t ≡ (Poly M.ring k).add (value M.ring k w s) (value M.ring k z u) → M.size v * tree_mass M t ≤ M.size w * tree_mass M s + M.size z * tree_mass M u
  tree-mass-add k v w z t s u rt rs ru e =
      let R = M.ring in
      let d = height t + height s + height u in
      let a = mass-value d k v t rt (omega arith) in
      let b = mass-value d k w s rs (omega arith) in
      let c = mass-value d k z u ru (omega arith) in
      let f = ap (mass M d k) e in
      let g = (mass_norm M S d k).sum (value R k w s) (value R k z u) in
      omega arith

  pub tree-mass-mul : (k : ℕ) (v w z : E) (t s u : Tree E) → Reduced M k t → Reduced M k s → Reduced M k u → value M.ring k v t ≡ (Poly M.ring k).mul (value M.ring k w s) (value M.ring k z u) → M.size v * tree_mass M t ≤ (M.size w * tree_mass M s) * (M.size z * tree_mass M u)
  tree-mass-mul k v w z t s u rt rs ru e =
      let R = M.ring in
      let d = height t + height s + height u in
      let a = mass-value d k v t rt (omega arith) in
      let bc = ap₂ ◌*◌ (mass-value d k w s rs (omega arith)) (mass-value d k z u ru (omega arith)) in
      let f = ap (mass M d k) e in
      let g = (mass_norm M S d k).prod (value R k w s) (value R k z u) in
      omega arith
