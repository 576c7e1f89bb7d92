-- The weight and the reduced tree of (a, m) + x (b, n).
use Rattle.std.proofs.Common.{◌≡◌, ℕ, ◌+◌, ◌*◌, ◌<◌, ◌≤◌, Bool, true, false, ◌≢◌, sym, refl, ap, ◌∙◌, subst, ap₂, inl, inr, true≢false, le_trans, mul-le-mul_right, mul_assoc, zero-mul as zero-mul-ℕ, mul-add, arith}
use Rattle.polynomial.specs.Elements.{is_zero, factor}
use Rattle.polynomial.specs.Polynomials.{Poly, letter}
use Rattle.polynomial.specs.Trees.{Tree, node, After, From, Reduced, tree_mass, Lawful, meaning, value, make}
use Rattle.domain.specs.Model.{Model}
use Rattle.polynomial.proofs.ElementFacts.{Facts}
use Rattle.polynomial.proofs.Rings.{mul-zero, zero-mul, cancel}
use Rattle.polynomial.proofs.SeriesRing.{poly_laws}
use Rattle.polynomial.proofs.Down.{constant-zero}
use Rattle.polynomial.proofs.LetterRules.{split}
use Rattle.polynomial.proofs.Canonicity.{le-mass, size_pos}

pub record Made {E : Type 0} (M : Model E) (k x : ℕ) (a : E) (m : Tree E) (b : E) (n : Tree E) (r : E × Tree E) : Type 0 where
  pub reduced : Reduced M k r.1
  pub lawful : Lawful M r.0 r.1
  pub weighs : M.size r.0 * tree_mass M r.1 ≡ M.size a * tree_mass M m + M.size b * tree_mass M n
  pub means : value M.ring k r.0 r.1 ≡ (Poly M.ring k).add (value M.ring k a m) ((Poly M.ring k).mul (letter M.ring k x) (value M.ring k b n))

module _ {E : Type 0} (M : Model E) (S : Facts M) where
  -- a factor that is not zero makes nothing smaller
  size_part : (g p : E) → g ≢ M.ring.zero → M.size p ≤ M.size (M.ring.mul g p)
  size_part g p h =
      elim S.sizes [
        | inl all ↦ let e = all p in omega arith
        | inr only ↦ let l : 1 * M.size p ≤ M.size g * M.size p = mul-le-mul_right (M.size p) (size_pos M S only g h) in omega (arith, S.size_mul g p)
      ]

  mul_cancel : (c x y : E) → c ≢ M.ring.zero → M.ring.mul c x ≡ M.ring.mul c y → x ≡ y
  mul_cancel c x y h e =
      let R = M.ring in
      let L = S.laws in
      let z : R.add x (R.neg y) ≡ R.zero =
      S.no_divisors c (R.add x (R.neg y)) (cc (L.mul-add c x (R.neg y), L.mul-add c y (R.neg y), L.add_neg y, mul-zero L c, e)) h in
      cancel L (R.neg y) x y (cc (z, L.add_comm x (R.neg y), L.add_neg y, L.add_comm y (R.neg y)))

  module _ (k x : ℕ) (known : x < k) (a : E) (m : Tree E) (b : E) (n : Tree E) (rm : Reduced M k m) (rn : Reduced M k n) (after : After x m) (from : From x n) (lm : Lawful M a m) (ln : Lawful M b n) (fits : M.size a * tree_mass M m + M.size b * tree_mass M n ≤ M.limit) (h : b ≢ M.ring.zero) where
    abbrev g : E
    g = (factor M a b).0

    abbrev p : E
    p = (factor M a b).1

    abbrev q : E
    q = (factor M a b).2

    coded_a : M.size a ≤ M.limit
    coded_a = le_trans (le-mass M S k a m rm) lm.light

    coded_b : M.size b ≤ M.limit
    coded_b = le_trans (le-mass M S k b n rn) ln.light

    gp : M.ring.mul g p ≡ a
    gp = S.factor_left a b coded_a coded_b h

    gq : M.ring.mul g q ≡ b
    gq = S.factor_right a b coded_a coded_b h

    g_nz : g ≢ M.ring.zero
    g_nz e = h (cc (gq, e, zero-mul S.laws q))

    q_nz : q ≢ M.ring.zero
    q_nz e = h (cc (gq, e, mul-zero S.laws g))

    coded_p : M.size p ≤ M.limit
    coded_p = le_trans (size_part g p g_nz) (subst (λ z. M.size z ≤ M.limit) (sym gp) coded_a)

    coded_q : M.size q ≤ M.limit
    coded_q = le_trans (size_part g q g_nz) (subst (λ z. M.size z ≤ M.limit) (sym gq) coded_b)

    -- factoring what is factored already changes nothing
    again : factor M p q ≡ (M.ring.one, p, q)
    again =
        let R = M.ring in
        let f : factor M a b ≡ (R.mul g (factor M p q).0, (factor M p q).1, (factor M p q).2) =
        ap₂ (factor M) (sym gp) (sym gq)
        ∙ S.factor_scale g p q coded_p coded_q q_nz g_nz (subst (λ z. M.size z ≤ M.limit) (sym gp) coded_a) (subst (λ z. M.size z ≤ M.limit) (sym gq) coded_b) in
        let e0 : (factor M p q).0 ≡ R.one = mul_cancel g (factor M p q).0 R.one g_nz (sym (ap (λ t. t.0) f) ∙ sym (S.laws.mul-one g)) in
        let e1 : (factor M p q).1 ≡ p = sym (ap (λ t. t.1) f) in
        let e2 : (factor M p q).2 ≡ q = sym (ap (λ t. t.2) f) in
        λ i. (e0 i, e1 i, e2 i)

    node_reduced : Reduced M k (node x p m q n)
    node_reduced = record {
      known = known;
      after = after;
      from = from;
      leads = q_nz;
      bare = λ e. lm.bare (cc (gp, e, mul-zero S.laws g));
      coded_p = coded_p;
      coded_q = coded_q;
      factored = again;
      below = rm;
      beside = rn;
    }

    same_mass : M.size g * tree_mass M (node x p m q n) ≡ M.size a * tree_mass M m + M.size b * tree_mass M n
    same_mass =
        cc (
          mul-add (M.size g) (M.size p * tree_mass M m) (M.size q * tree_mass M n),
          mul_assoc (M.size g) (M.size p) (tree_mass M m),
          mul_assoc (M.size g) (M.size q) (tree_mass M n),
          S.size_mul g p,
          S.size_mul g q,
          ap M.size gp,
          ap M.size gq,
        )

    node_lawful : Lawful M g (node x p m q n)
    node_lawful = record {
      bare = λ e. absurd (g_nz e);
      light = omega (arith, same_mass);
    }

    node_made : Made M k x a m b n (g, node x p m q n)
    node_made = record {
      reduced = node_reduced;
      lawful = node_lawful;
      weighs = same_mass;
      means =
          let R = M.ring in
          let P = Poly R k in
          split S.laws k x p m q n g
          ∙ ((poly_laws S.laws k).add_comm (P.mul (letter R k x) (value R k (R.mul g q) n)) (value R k (R.mul g p) m)
          ∙ ap₂ (λ s t. P.add (value R k s m) (P.mul (letter R k x) (value R k t n))) gp gq);
    }

  pub made : (k x : ℕ) → x < k → (a : E) (m : Tree E) (b : E) (n : Tree E) → Reduced M k m → Reduced M k n → After x m → From x n → Lawful M a m → Lawful M b n → M.size a * tree_mass M m + M.size b * tree_mass M n ≤ M.limit → Made M k x a m b n (make M x a m b n)
  made k x known a m b n rm rn after from lm ln fits = go (is_zero M b) refl
    where
      go : (t : Bool) → is_zero M b ≡ t → Made M k x a m b n (elim t [ true ↦ (a, m) | false ↦ ((factor M a b).0, node x (factor M a b).1 m (factor M a b).2 n) ])
      go true t =
          let e = S.is_zero_only b t in
          record {
            reduced = rm;
            lawful = lm;
            weighs = let z = ap (λ s. s * tree_mass M n) (ap M.size e ∙ S.size_zero) ∙ zero-mul-ℕ (tree_mass M n) in omega arith;
            means =
                let R = M.ring in
                let L = poly_laws S.laws k in
                cc (e, constant-zero R k, zero-mul L (meaning R k n), mul-zero L (letter R k x), L.add-zero (value R k a m));
          }
      go false t = node_made k x known a m b n rm rn after from lm ln fits (λ e. true≢false (sym (ap (is_zero M) e ∙ S.zero_is) ∙ t))
