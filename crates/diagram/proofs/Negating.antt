-- Constants and negated references.
use Rattle.std.proofs.Common.{◌≡◌, ℕ, zero, suc, ◌*◌, ◌≤◌, Bool, true, cond, ◌≢◌, List, Ok, Err, Result, sym, refl, ap, ◌∙◌, subst, inl, inr, suc-mul, zero-mul as zero-mul-ℕ, arith}
use Rattle.domain.specs.Answers.{negated}
use Rattle.domain.specs.Model.{Model, Sound}
use Rattle.domain.specs.Numbers.{no_code}
use Rattle.domain.specs.declared.fault.Fault.{Fault}
use Rattle.domain.specs.Ring.{Ring, Laws}
use Rattle.domain.specs.declared.number.Number.{Number}
use Rattle.polynomial.specs.Coefficients.{coefficient}
use Rattle.polynomial.specs.Polynomials.{Poly, constant}
use Rattle.polynomial.specs.Trees.{Tree, tree_mass, meaning, value}
use Rattle.polynomial.proofs.Rings.{one-mul, add-mul, cancel, mul-zero, zero-mul}
use Rattle.polynomial.proofs.Theorems.{ring_laws, coefficient_laws}
use Rattle.diagram.specs.Answering.{StandsFor}
use Rattle.diagram.specs.Tables.{tree, of, LawfulIn}
use Rattle.diagram.specs.declared.entry.Entry.{Entry}
use Rattle.diagram.specs.declared.entry.Reference.{Reference}

module _ {E : Type 0} {R : Ring E} (L : Laws R) where
  pub neg_is : (a : E) → R.neg a ≡ R.mul (R.neg R.one) a
  neg_is a =
      cancel L a (R.neg a) (R.mul (R.neg R.one) a)
      (L.add_neg a ∙ sym (cc (one-mul L a, add-mul L R.one (R.neg R.one) a, L.add_neg R.one, zero-mul L a)))

  neg-one_twice : R.mul (R.neg R.one) (R.neg R.one) ≡ R.one
  neg-one_twice =
      let m = R.neg R.one in
      cancel L m (R.mul m m) R.one (cc (L.mul-one m, L.mul-add m R.one m, L.add_neg R.one, mul-zero L m, L.add_comm m R.one))

  pub neg-mul : (a b : E) → R.mul (R.neg a) b ≡ R.neg (R.mul a b)
  neg-mul a b = cc (neg_is a, L.mul_assoc (R.neg R.one) a b, neg_is (R.mul a b))

square_self : (s : ℕ) → s * s ≡ s → s ≢ 0 → s ≡ 1
square_self zero e h = absurd (h refl)
square_self (suc zero) e h = refl
square_self (suc (suc m)) e h = absurd (omega (arith, e, suc-mul (suc m) (suc (suc m)), suc-mul m (suc (suc m))))

square_one : (s : ℕ) → s * s ≡ 1 → s ≡ 1
square_one zero e = absurd (omega (arith, e, zero-mul-ℕ 0))
square_one (suc zero) e = refl
square_one (suc (suc m)) e = absurd (omega (arith, e, suc-mul (suc m) (suc (suc m)), suc-mul m (suc (suc m))))

module _ {E : Type 0} (M : Model E) (S : Sound M) where
  -- a negated element has the same size
  pub size_neg : (a : E) → M.size (M.ring.neg a) ≡ M.size a
  size_neg a =
      elim S.sizes.kinds [
        | inl all ↦ all (M.ring.neg a) ∙ sym (all a)
        | inr only ↦
            let R = M.ring in
            let one : M.size R.one ≡ 1 =
            square_self (M.size R.one) (sym (S.sizes.product R.one R.one) ∙ ap M.size (S.laws.mul-one R.one)) (λ z. S.integral.apart (sym ((only R.one).0 z))) in
            let m : M.size (R.neg R.one) ≡ 1 =
            square_one (M.size (R.neg R.one)) (sym (S.sizes.product (R.neg R.one) (R.neg R.one)) ∙ (ap M.size (neg-one_twice S.laws) ∙ one)) in
            ap M.size (neg_is S.laws a) ∙ (S.sizes.product (R.neg R.one) a ∙ omega (arith, ap (λ z. z * M.size a) m))
      ]

  -- the value of the code of a negated element
  pub negated_value : (w v : Number) → M.coded w ≡ true → v ≡ M.code (M.ring.neg (M.value w)) → M.value v ≡ M.ring.neg (M.value w)
  negated_value w v c e = ap M.value e ∙ (S.codes.has (M.ring.neg (M.value w)) (omega (arith, size_neg (M.value w), S.codes.small w c))).1

  module _ (k : ℕ) (es : List Entry) where
    pub constant-stands : (w v : Number) → w ≡ v → M.coded w ≡ true → (M.coded v ≡ true) × StandsFor M k es (constant M.ring k (M.value v)) (record { weight = w; entry = 0 })
    constant-stands w v e c = (subst (λ z. M.coded z ≡ true) e c, subst (λ z. StandsFor M k es (constant M.ring k (M.value z)) (record { weight = w; entry = 0 })) e (stands w c))
      where
        stands : (w : Number) → M.coded w ≡ true → StandsFor M k es (constant M.ring k (M.value w)) (record { weight = w; entry = 0 })
        stands w c =
            let s : M.size (M.value w) * M.size M.ring.one ≡ M.size (M.value w) =
            sym (S.sizes.product (M.value w) M.ring.one) ∙ ap M.size (S.laws.mul-one (M.value w)) in
            let h = S.codes.small w c in
            record {
              lawful = record { coded = c; inside = omega arith; lawful = record { bare = λ _. refl; light = omega (arith, s, h) } };
              is = (ring_laws M S k).mul-one (constant M.ring k (M.value w));
            }

    value-neg : (w : E) (t : Tree E) → value M.ring k (M.ring.neg w) t ≡ (Poly M.ring k).neg (value M.ring k w t)
    value-neg w t =
        let C = coefficient_laws M S k in
        C.same (value M.ring k (M.ring.neg w) t) ((Poly M.ring k).neg (value M.ring k w t))
        (λ u _. C.times (M.ring.neg w) (meaning M.ring k t) u
        ∙ (neg-mul S.laws w (coefficient M.ring k (meaning M.ring k t) u)
        ∙ (ap M.ring.neg (sym (C.times w (meaning M.ring k t) u)) ∙ sym (C.negation (value M.ring k w t) u))))

    pub negation_stands : (f : Reference) (v : Number) → LawfulIn M es f → v ≡ M.code (M.ring.neg (M.value f.weight))
        → StandsFor M k es ((Poly M.ring k).neg (of M k es f)) (record { weight = v; entry = f.entry })
    negation_stands f v L e =
        let w = M.value f.weight in
        let small : M.size (M.ring.neg w) ≤ M.limit = omega (arith, size_neg w, S.codes.small f.weight L.coded) in
        let H = S.codes.has (M.ring.neg w) small in
        let vw : M.value v ≡ M.ring.neg w = ap M.value e ∙ H.1 in
        let t = tree M es f.entry in
        record {
          lawful = record {
            coded = subst (λ z. M.coded z ≡ true) (sym e) H.0;
            inside = L.inside;
            lawful = record {
              bare = λ z. L.lawful.bare (zero_of w (sym vw ∙ z));
              light = omega (arith, L.lawful.light, ap (λ z. z * tree_mass M t) (ap M.size vw ∙ size_neg w));
            };
          };
          is = ap (λ z. value M.ring k z t) vw ∙ value-neg w t;
        }
      where
        zero_of : (w : E) → M.ring.neg w ≡ M.ring.zero → w ≡ M.ring.zero
        zero_of w z = cc (S.laws.add_neg w, S.laws.add-zero w)

  pub negated_ok : (w v : Number) → M.coded w ≡ true → ◌≡◌ {A = Result Number Fault} (Ok v) (negated M w) → v ≡ M.code (M.ring.neg (M.value w))
  negated_ok w v c e = cc (e, ap (λ (b : Bool). cond {A = Result Number Fault} b (Ok (M.code (M.ring.neg (M.value w)))) (Err (no_code w))) c)
