-- The degree of a polynomial, read off its tree.
use Rattle.std.proofs.Common.{◌≡◌, ℕ, zero, suc, pred, ◌<◌, ◌≤◌, ◌≢◌, List, [], ◌∷◌, length, sym, refl, ap, ◌∙◌, inr, arith}
use native.Mathlib.Decide.{dec_lt}
use Rattle.domain.specs.Ring.{Ring, Laws}
use Rattle.polynomial.specs.Coefficients.{coefficient, total_power}
use Rattle.polynomial.specs.Degree.{Degree}
use Rattle.polynomial.specs.Polynomials.{Polynomial, Poly, constant, letter}
use Rattle.polynomial.specs.Trees.{Tree, leaf, node, Reduced, meaning, value, tree_degree}
use Rattle.domain.specs.Model.{Model}
use Rattle.polynomial.proofs.ElementFacts.{Facts}
use Rattle.polynomial.proofs.Rings.{mul-zero, zero-mul}
use Rattle.polynomial.proofs.SeriesRing.{embed-mul, poly_laws}
use Rattle.polynomial.proofs.Down.{down}
use Rattle.polynomial.proofs.CoefficientLaws.{coefficient-add, coefficient_scale}
use Rattle.polynomial.proofs.LetterRules.{reduced_ordered, free, down_node}

abbrev pub exponent : ℕ → List ℕ → ℕ
exponent x [] = 0
exponent zero (e ∷ u) = e
exponent (suc x) (e ∷ u) = exponent x u

abbrev pub lower : ℕ → List ℕ → List ℕ
lower x [] = []
lower zero (e ∷ u) = pred e ∷ u
lower (suc x) (e ∷ u) = e ∷ lower x u

abbrev pub raise : ℕ → List ℕ → List ℕ
raise zero [] = 1 ∷ []
raise zero (e ∷ u) = suc e ∷ u
raise (suc x) [] = 0 ∷ raise x []
raise (suc x) (e ∷ u) = e ∷ raise x u

raise_sum : (x : ℕ) (u : List ℕ) → total_power (raise x u) ≡ suc (total_power u)
raise_sum zero [] = refl
raise_sum zero (e ∷ u) = omega arith
raise_sum (suc x) [] = let i = raise_sum x [] in omega arith
raise_sum (suc x) (e ∷ u) = let i = raise_sum x u in omega arith

raise-length : (k x : ℕ) (u : List ℕ) → x < k → length u ≤ k → length (raise x u) ≤ k
raise-length zero x u h l = absurd (omega arith)
raise-length (suc k) zero [] h l = omega arith
raise-length (suc k) zero (e ∷ u) h l = l
raise-length (suc k) (suc x) [] h l = let i = raise-length k x [] (omega arith) (omega arith) in omega arith
raise-length (suc k) (suc x) (e ∷ u) h l = let i = raise-length k x u (omega arith) (omega arith) in omega arith

lower_sum : (x : ℕ) (u : List ℕ) → 0 < exponent x u → suc (total_power (lower x u)) ≡ total_power u
lower_sum x [] h = absurd (omega arith)
lower_sum zero (e ∷ u) h = omega arith
lower_sum (suc x) (e ∷ u) h = let i = lower_sum x u h in omega arith

lower-length : (x : ℕ) (u : List ℕ) → length (lower x u) ≡ length u
lower-length x [] = refl
lower-length zero (e ∷ u) = refl
lower-length (suc x) (e ∷ u) = ap suc (lower-length x u)

raise-lower : (x : ℕ) (u : List ℕ) → 0 < exponent x u → raise x (lower x u) ≡ u
raise-lower x [] h = absurd (omega arith)
raise-lower zero (e ∷ u) h = let i : suc (pred e) ≡ e = omega arith in ap (λ z. z ∷ u) i
raise-lower (suc x) (e ∷ u) h = ap (λ z. e ∷ z) (raise-lower x u h)

module _ {E : Type 0} {R : Ring E} (L : Laws R) where
  coefficient-down : (k x : ℕ) → x < k → (f : Polynomial E k) (u : List ℕ) → coefficient R k f (raise x u) ≡ coefficient R k (down R k x f) u
  coefficient-down zero x h f u = absurd (omega arith)
  coefficient-down (suc k) zero h f [] = refl
  coefficient-down (suc k) zero h f (e ∷ u) = refl
  coefficient-down (suc k) (suc x) h f [] = coefficient-down k x (omega arith) (f 0) []
  coefficient-down (suc k) (suc x) h f (e ∷ u) = coefficient-down k x (omega arith) (f e) u

  coefficient-zero : (k : ℕ) (u : List ℕ) → coefficient R k (Poly R k).zero u ≡ R.zero
  coefficient-zero zero u = refl
  coefficient-zero (suc k) [] = coefficient-zero k []
  coefficient-zero (suc k) (e ∷ u) = coefficient-zero k u

  -- nothing of x f stands where x does not
  coefficient_free : (k x : ℕ) (f : Polynomial E k) (u : List ℕ) → exponent x u ≡ 0 → coefficient R k ((Poly R k).mul (letter R k x) f) u ≡ R.zero
  coefficient_free zero x f u h = zero-mul L f
  coefficient_free (suc k) zero f [] h = ap (λ c. coefficient R k c []) (zero-mul (poly_laws L k) (f 0)) ∙ coefficient-zero k []
  coefficient_free (suc k) zero f (e ∷ u) h = at e h
    where
      at : (e : ℕ) → e ≡ 0 → coefficient R (suc k) ((Poly R (suc k)).mul (letter R (suc k) zero) f) (e ∷ u) ≡ R.zero
      at zero h = ap (λ c. coefficient R k c u) (zero-mul (poly_laws L k) (f 0)) ∙ coefficient-zero k u
      at (suc e) h = absurd (omega arith)
  coefficient_free (suc k) (suc x) f [] h = coefficient_free k x (f 0) [] refl
  coefficient_free (suc k) (suc x) f (e ∷ u) h = ap (λ c. coefficient R k c u) (embed-mul (poly_laws L k) (letter R k x) f e) ∙ coefficient_free k x (f e) u h

  coefficient-one : (k : ℕ) (u : List ℕ) → length u ≤ k → 0 < total_power u → coefficient R k (Poly R k).one u ≡ R.zero
  coefficient-one k [] l h = absurd (omega arith)
  coefficient-one zero (e ∷ u) l h = absurd (omega arith)
  coefficient-one (suc k) (zero ∷ u) l h = coefficient-one k u (omega arith) (omega arith)
  coefficient-one (suc k) (suc e ∷ u) l h = coefficient-zero k u

  coefficient-one_here : (k : ℕ) → coefficient R k (Poly R k).one [] ≡ R.one
  coefficient-one_here zero = refl
  coefficient-one_here (suc k) = coefficient-one_here k

module _ {E : Type 0} (M : Model E) (S : Facts M) (k : ℕ) where
  module _ (x : ℕ) (p : E) (m : Tree E) (q : E) (n : Tree E) (r : Reduced M k (node x p m q n)) where
    -- the coefficients of a node, by the exponent of its letter
    pub node_raised : (u : List ℕ) → coefficient M.ring k (meaning M.ring k (node x p m q n)) (raise x u) ≡ M.ring.mul q (coefficient M.ring k (meaning M.ring k n) u)
    node_raised u =
        let R = M.ring in
        coefficient-down S.laws k x r.known (meaning R k (node x p m q n)) u ∙ (ap (λ f. coefficient R k f u) (down_node S.laws k x p m q n (reduced_ordered M k (node x p m q n) r)) ∙ coefficient_scale S.laws k q (meaning R k n) u)

    pub node_plain : (u : List ℕ) → exponent x u ≡ 0 → coefficient M.ring k (meaning M.ring k (node x p m q n)) u ≡ M.ring.mul p (coefficient M.ring k (meaning M.ring k m) u)
    node_plain u h =
        let R = M.ring in
        let A = (Poly R k).mul (constant R k p) (meaning R k m) in
        let B = (Poly R k).mul (constant R k q) (meaning R k n) in
        cc (coefficient-add R k A ((Poly R k).mul (letter R k x) B) u, coefficient_scale S.laws k p (meaning R k m) u, coefficient_free S.laws k x B u h, S.laws.add-zero (R.mul p (coefficient R k (meaning R k m) u)))

    no_letter : (u : List ℕ) → coefficient M.ring k (meaning M.ring k m) u ≢ M.ring.zero → exponent x u ≡ 0
    no_letter u nz =
        let R = M.ring in
        elim (dec_lt 0 (exponent x u)) [
          | yes l ↦ absurd (nz (ap (coefficient R k (meaning R k m)) (sym (raise-lower x u l)) ∙ (coefficient-down S.laws k x r.known (meaning R k m) (lower x u) ∙ (ap (λ f. coefficient R k f (lower x u)) (free S.laws k x m (reduced_ordered M k m r.below) r.after) ∙ coefficient-zero S.laws k (lower x u)))))
          | no l ↦ omega arith
        ]

  above : (t : Tree E) → Reduced M k t → (u : List ℕ) → length u ≤ k → tree_degree t < total_power u → coefficient M.ring k (meaning M.ring k t) u ≡ M.ring.zero
  above leaf r u l h = coefficient-one S.laws k u l h
  above (node x p m q n) r u l h =
      let R = M.ring in
      elim (dec_lt 0 (exponent x u)) [
        | yes g ↦
            let s = lower_sum x u g in
            let ll = lower-length x u in
            ap (coefficient R k (meaning R k (node x p m q n))) (sym (raise-lower x u g)) ∙ (node_raised x p m q n r (lower x u) ∙ (ap (R.mul q) (above n r.beside (lower x u) (omega arith) (omega arith)) ∙ mul-zero S.laws q))
        | no g ↦ node_plain x p m q n r u (omega arith) ∙ (ap (R.mul p) (above m r.below u l (omega arith)) ∙ mul-zero S.laws p)
      ]

  reach : (t : Tree E) → Reduced M k t → (u : List ℕ) × (length u ≤ k) × (total_power u ≡ tree_degree t) × (coefficient M.ring k (meaning M.ring k t) u ≢ M.ring.zero)
  reach leaf r = ([], omega arith, refl, λ e. S.apart (sym e ∙ coefficient-one_here S.laws k))
  reach (node x p m q n) r =
      let R = M.ring in
      elim (dec_lt (tree_degree n) (tree_degree m)) [
        | yes l ↦
            let (u, lu, su, nz) = reach m r.below in
            (u, lu, omega arith, λ e. nz (S.no_divisors p (coefficient R k (meaning R k m) u) (sym (node_plain x p m q n r u (no_letter x p m q n r u nz)) ∙ e) (λ z. let d = ap tree_degree (r.bare z) in omega arith)))
        | no l ↦
            let (u, lu, su, nz) = reach n r.beside in
            let s = raise_sum x u in
            (raise x u, raise-length k x u r.known lu, omega arith, λ e. nz (S.no_divisors q (coefficient R k (meaning R k n) u) (sym (node_raised x p m q n r u) ∙ e) r.leads))
      ]

  pub degree_is : (t : Tree E) → Reduced M k t → Degree M.ring k (meaning M.ring k t) (tree_degree t)
  degree_is t r = record { ends = above t r; reached = inr (reach t r) }

  -- a weight that is not zero leaves the degree
  pub degree_value : (t : Tree E) → Reduced M k t → (w : E) → w ≢ M.ring.zero → Degree M.ring k (value M.ring k w t) (tree_degree t)
  degree_value t r w h =
      let R = M.ring in
      let f = meaning R k t in
      let (u, l, s, nz) = reach t r in
      record {
        ends = λ u l g. coefficient_scale S.laws k w f u ∙ (ap (R.mul w) (above t r u l g) ∙ mul-zero S.laws w);
        reached = inr (u, l, s, λ e. nz (S.no_divisors w (coefficient R k f u) (sym (coefficient_scale S.laws k w f u) ∙ e) h));
      }
