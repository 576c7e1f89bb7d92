-- What the laws of a domain say of its elements, with the test for zero and the common factor told of elements.
use Rattle.std.proofs.Common.{◌≡◌, ◌+◌, ◌*◌, ◌≤◌, Bool, true, false, cond, eqb, ◌≢◌, ◌⊎◌, ℤ, pos, negsuc, sym, refl, ap, ◌∙◌, ap₂, inl, inr, arith}
use mathlib.Core.Bool.{false≢true}
use Rattle.std.proofs.lemmas.Bool.{eqb-true}
use Rattle.domain.specs.declared.number.Number.{Number}
use Rattle.domain.specs.Numbers.{number, is_zero as zero_code}
use Rattle.domain.specs.Ring.{Laws}
use Rattle.domain.specs.Model.{Model, Sound, Factors, Scales}
use Rattle.polynomial.specs.Elements.{is_zero, factor}

pub record Facts {E : Type 0} (M : Model E) : Type 0 where
  pub laws : Laws M.ring
  pub zero_is : is_zero M M.ring.zero ≡ true
  pub is_zero_only : (a : E) → is_zero M a ≡ true → a ≡ M.ring.zero
  pub apart : M.ring.zero ≢ M.ring.one
  pub no_divisors : (a b : E) → M.ring.mul a b ≡ M.ring.zero → a ≢ M.ring.zero → b ≡ M.ring.zero
  pub size_zero : M.size M.ring.zero ≡ 0
  pub size_mul : (a b : E) → M.size (M.ring.mul a b) ≡ M.size a * M.size b
  pub size_add : (a b : E) → M.size (M.ring.add a b) ≤ M.size a + M.size b
  pub sizes : ((a : E) → M.size a ≡ 0) ⊎ ((a : E) → M.size a ≡ 0 → a ≡ M.ring.zero)
  pub factor_left : (a b : E) → M.size a ≤ M.limit → M.size b ≤ M.limit → b ≢ M.ring.zero → M.ring.mul (factor M a b).0 (factor M a b).1 ≡ a
  pub factor_right : (a b : E) → M.size a ≤ M.limit → M.size b ≤ M.limit → b ≢ M.ring.zero → M.ring.mul (factor M a b).0 (factor M a b).2 ≡ b
  pub factor_scale : (k a b : E) → M.size a ≤ M.limit → M.size b ≤ M.limit → b ≢ M.ring.zero → k ≢ M.ring.zero → M.size (M.ring.mul k a) ≤ M.limit → M.size (M.ring.mul k b) ≤ M.limit
      → factor M (M.ring.mul k a) (M.ring.mul k b) ≡ (M.ring.mul k (factor M a b).0, (factor M a b).1, (factor M a b).2)

-- the number 0 is the only one that passes its test
zero_only : (n : Number) → zero_code n ≡ true → n ≡ number (pos 0)
zero_only n e = go n.int e
  where
    go : (z : ℤ) → zero_code (number z) ≡ true → number z ≡ number (pos 0)
    go (pos n) e = ap (λ m. number (pos m)) (eqb-true n 0 e)
    go (negsuc n) e = absurd (false≢true e)

both : (a b : Bool) → cond a b false ≡ true → (a ≡ true) × (b ≡ true)
both true b e = (refl, e)
both false b e = absurd (false≢true e)

module _ {E : Type 0} {M : Model E} (S : Sound M) where
  pub size_zero : M.size M.ring.zero ≡ 0
  size_zero = elim S.sizes.kinds [ inl all ↦ all M.ring.zero | inr only ↦ (only M.ring.zero).1 refl ]

  -- zero has the code 0
  pub code_zero : M.code M.ring.zero ≡ number (pos 0)
  code_zero = ap M.code (sym S.codes.zero.1) ∙ S.codes.only (number (pos 0)) S.codes.zero.0

  zero_is : is_zero M M.ring.zero ≡ true
  unfolding is_zero
  zero_is = ap₂ (λ s n. cond (eqb s 0) (zero_code n) false) size_zero code_zero

  is_zero_only : (a : E) → is_zero M a ≡ true → a ≡ M.ring.zero
  unfolding is_zero
  is_zero_only a e =
      let parts = both (eqb (M.size a) 0) (zero_code (M.code a)) e in
      let s = eqb-true (M.size a) 0 parts.0 in
      sym (S.codes.has a (omega (arith, s))).1 ∙ (ap M.value (zero_only (M.code a) parts.1) ∙ S.codes.zero.1)

  -- at the values of codes the test and the factor are those of the codes
  pub is_zero_code : (n : Number) → M.coded n ≡ true → is_zero M (M.value n) ≡ zero_code n
  is_zero_code n c = go (is_zero M (M.value n)) (zero_code n) refl refl
    where
      go : (s t : Bool) → is_zero M (M.value n) ≡ s → zero_code n ≡ t → s ≡ t
      go true true e f = refl
      go false false e f = refl
      go true false e f = ap zero_code (sym (ap M.code (is_zero_only (M.value n) e) ∙ code_zero) ∙ S.codes.only n c) ∙ f
      go false true e f = sym e ∙ (ap (is_zero M) (ap M.value (zero_only n f) ∙ S.codes.zero.1) ∙ zero_is)

  -- an element of a size within the limit, by its code
  coded : (a : E) → M.size a ≤ M.limit → M.coded (M.code a) ≡ true
  coded a h = (S.codes.has a h).0

  back : (a : E) → M.size a ≤ M.limit → M.value (M.code a) ≡ a
  back a h = (S.codes.has a h).1

  pub factor_code : (a b : Number) → M.coded a ≡ true → M.coded b ≡ true → factor M (M.value a) (M.value b) ≡ (M.value (M.factor a b).0, M.value (M.factor a b).1, M.value (M.factor a b).2)
  unfolding factor
  factor_code a b ca cb = ap₂ (λ m n. (M.value (M.factor m n).0, M.value (M.factor m n).1, M.value (M.factor m n).2)) (S.codes.only a ca) (S.codes.only b cb)

  module _ (a b : E) (ha : M.size a ≤ M.limit) (hb : M.size b ≤ M.limit) (nz : b ≢ M.ring.zero) where
    some : M.value (M.code b) ≢ M.ring.zero
    some e = nz (sym (back b hb) ∙ e)

    parts : Factors M (M.code a) (M.code b)
    parts = S.factors (M.code a) (M.code b) (coded a ha) (coded b hb) some

    factor_left : M.ring.mul (factor M a b).0 (factor M a b).1 ≡ a
    unfolding factor
    factor_left = sym parts.left ∙ back a ha

    factor_right : M.ring.mul (factor M a b).0 (factor M a b).2 ≡ b
    unfolding factor
    factor_right = sym parts.right ∙ back b hb

    factor_scale : (k : E) → k ≢ M.ring.zero → M.size (M.ring.mul k a) ≤ M.limit → M.size (M.ring.mul k b) ≤ M.limit
        → factor M (M.ring.mul k a) (M.ring.mul k b) ≡ (M.ring.mul k (factor M a b).0, (factor M a b).1, (factor M a b).2)
    unfolding factor
    factor_scale k hk la lb =
        let ka = M.ring.mul k a in
        let kb = M.ring.mul k b in
        let s : Scales M (M.code a) (M.code b) (M.code ka) (M.code kb) k =
        S.scales k (M.code a) (M.code b) (M.code ka) (M.code kb) (coded a ha) (coded b hb) some hk (coded ka la) (coded kb lb)
        (back ka la ∙ ap (M.ring.mul k) (sym (back a ha))) (back kb lb ∙ ap (M.ring.mul k) (sym (back b hb))) in
        λ i. (s.first i, M.value (s.second i), M.value (s.third i))

  pub facts : Facts M
  facts = record {
    laws = S.laws;
    zero_is = zero_is;
    is_zero_only = is_zero_only;
    apart = S.integral.apart;
    no_divisors = λ a b e h. elim (S.integral.no_divisors a b e) [ inl z ↦ absurd (h z) | inr z ↦ z ];
    size_zero = size_zero;
    size_mul = S.sizes.product;
    size_add = S.sizes.sum;
    sizes = elim S.sizes.kinds [ inl all ↦ inl all | inr only ↦ inr (λ a. (only a).0) ];
    factor_left = factor_left;
    factor_right = factor_right;
    factor_scale = λ k a b ha hb nz hk la lb. factor_scale a b ha hb nz k hk la lb;
  }
