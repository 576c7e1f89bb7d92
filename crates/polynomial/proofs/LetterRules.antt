-- Trees whose letters rise: what a letter takes from their polynomials.
use Rattle.std.proofs.Common.{◌≡◌, ℕ, ◌<◌, ◌≤◌, ◌∙◌, ap₂, arith}
use Rattle.domain.specs.Ring.{Ring, Laws}
use Rattle.domain.specs.Model.{Model}
use Rattle.polynomial.specs.Polynomials.{Polynomial, Poly, constant, letter, down}
use Rattle.polynomial.specs.Trees.{Tree, leaf, node, After, From, Reduced, meaning, value}
use Rattle.polynomial.proofs.Rings.{zero-add, mul-zero}
use Rattle.polynomial.proofs.RingRules.{ringy}
use Rattle.polynomial.proofs.SeriesRing.{poly_laws}
use Rattle.polynomial.proofs.Down.{down-add, down-one, down_const, down_other, down_same, constant-mul}

-- letters rise from the root on, and of the weights nothing is asked
abbrev pub Ordered : {E : Type 0} → ℕ → Tree E → Type 0
Ordered k leaf = Unit {0}
Ordered k (node x p m q n) = (x < k) × After x m × From x n × Ordered k m × Ordered k n

pub after_after : {E : Type 0} (x y : ℕ) → x < y → (t : Tree E) → After y t → After x t
after_after x y h leaf a = tt
after_after x y h (node z p m q n) a = omega arith

pub after_from : {E : Type 0} (x y : ℕ) → x < y → (t : Tree E) → From y t → After x t
after_from x y h leaf a = tt
after_from x y h (node z p m q n) a = omega arith

pub after_le : {E : Type 0} (x y : ℕ) → y ≤ x → (t : Tree E) → After x t → After y t
after_le x y h leaf a = tt
after_le x y h (node z p m q n) a = omega arith

pub reduced_ordered : {E : Type 0} (M : Model E) (k : ℕ) (t : Tree E) → Reduced M k t → Ordered k t
reduced_ordered M k leaf r = tt
reduced_ordered M k (node x p m q n) r = (r.known, r.after, r.from, reduced_ordered M k m r.below, reduced_ordered M k n r.beside)

module _ {E : Type 0} {R : Ring E} (L : Laws R) (k : ℕ) where
  abbrev P : Ring (Polynomial E k)
  P = Poly R k

  abbrev PL : Laws P
  PL = poly_laws L k

  -- no letter before the top one
  pub free : (x : ℕ) (t : Tree E) → Ordered k t → After x t → down R k x (meaning R k t) ≡ P.zero
  free x leaf r a = down-one L k x
  free x (node y p m q n) r a =
      let cp = constant R k p in
      let cq = constant R k q in
      let fm = meaning R k m in
      let fn = meaning R k n in
      let X = letter R k y in
      cc (
        down-add L k x (P.mul cp fm) (P.mul X (P.mul cq fn)),
        down_const L k x p fm,
        down_other L k x y a (P.mul cq fn),
        down_const L k x q fn,
        free x m r.3 (after_after x y a m r.1),
        free x n r.4 (after_from x y a n r.2),
        mul-zero PL cp,
        mul-zero PL cq,
        mul-zero PL X,
        zero-add PL P.zero,
      )

  pub free_value : (x : ℕ) (v : E) (t : Tree E) → Ordered k t → After x t → down R k x (value R k v t) ≡ P.zero
  free_value x v t r a = cc (down_const L k x v (meaning R k t), free x t r a, mul-zero PL (constant R k v))

  module _ (x : ℕ) (p : E) (m : Tree E) (q : E) (n : Tree E) (r : Ordered k (node x p m q n)) where
    pub down_node : down R k x (meaning R k (node x p m q n)) ≡ P.mul (constant R k q) (meaning R k n)
    down_node =
        let cp = constant R k p in
        let B = P.mul (constant R k q) (meaning R k n) in
        cc (
          down-add L k x (P.mul cp (meaning R k m)) (P.mul (letter R k x) B),
          down_const L k x p (meaning R k m),
          down_same L k x r.0 B,
          free x m r.3 r.1,
          mul-zero PL cp,
          zero-add PL B,
        )

    pub down-value : (v : E) → down R k x (value R k v (node x p m q n)) ≡ value R k (R.mul v q) n
    down-value v =
        cc (down_const L k x v (meaning R k (node x p m q n)), down_node, constant-mul L k v q, PL.mul_assoc (constant R k v) (constant R k q) (meaning R k n))

  -- the two parts of a node
  pub split : (x : ℕ) (p : E) (m : Tree E) (q : E) (n : Tree E) (v : E) → value R k v (node x p m q n) ≡ P.add (P.mul (letter R k x) (value R k (R.mul v q) n)) (value R k (R.mul v p) m)
  split x p m q n v =
      split_by PL (constant R k v) (constant R k p) (meaning R k m) (letter R k x) (constant R k q) (meaning R k n)
      ∙ ap₂ (λ a b. P.add (P.mul (letter R k x) (P.mul b (meaning R k n))) (P.mul a (meaning R k m))) (constant-mul L k v p) (constant-mul L k v q)
    where
      split_by : {F : Type 0} {Q : Ring F} (K : Laws Q) (v p m x q n : F) → Q.mul v (Q.add (Q.mul p m) (Q.mul x (Q.mul q n))) ≡ Q.add (Q.mul x (Q.mul (Q.mul v q) n)) (Q.mul (Q.mul v p) m)
      split_by K v p m x q n = simp ringy
