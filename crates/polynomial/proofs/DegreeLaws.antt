-- The degree of a product of two polynomials that are not zero, and of a sum.
use Rattle.std.proofs.Common.{◌≡◌, ℕ, zero, suc, ◌+◌, ◌<◌, ◌≤◌, max, ◌≢◌, ◌⊎◌, List, [], ◌∷◌, sym, refl, ◌∙◌, inl, inr, arith}
use Rattle.std.proofs.lemmas.Bool.{cases_lt, cases_order}
use Rattle.domain.specs.Ring.{Ring}
use Rattle.domain.specs.Model.{Model, Sound}
use Rattle.polynomial.specs.Polynomials.{Polynomial, Poly}
use Rattle.polynomial.specs.Coefficients.{coefficient, total_power}
use Rattle.polynomial.specs.Degree.{Reaches, Degree}
use Rattle.polynomial.proofs.CoefficientLaws.{coefficient_ext, coefficient_nought, coefficient-add}
use Rattle.polynomial.proofs.LeadingTerms.{Below, Lead, lead_or_below, product-below, product_leads}
use Rattle.polynomial.proofs.ZeroTest.{zero_or_not}

-- a row of total power 0 has the coefficient of the empty row
coefficient-constant : {E : Type 0} (R : Ring E) (k : ℕ) (f : Polynomial E k) (u : List ℕ) → total_power u ≡ 0 → coefficient R k f u ≡ coefficient R k f []
coefficient-constant R zero f u h = refl
coefficient-constant R (suc k) f [] h = refl
coefficient-constant R (suc k) f (zero ∷ u) h = coefficient-constant R k (f 0) u (omega arith)
coefficient-constant R (suc k) f (suc i ∷ u) h = absurd (omega arith)

-- a polynomial that is not zero has a coefficient at its degree
reaches : {E : Type 0} (R : Ring E) (k : ℕ) (f : Polynomial E k) (d : ℕ) → f ≢ (Poly R k).zero → Degree R k f d → Reaches R k f d
reaches R k f d n D =
    elim D.reached [
      | inl z ↦ (
        [],
        omega arith,
        omega arith,
        λ e. n (coefficient_ext R k f (Poly R k).zero (λ u l.
            (elim (cases_lt d (total_power u)) [ inl h ↦ D.ends u l h | inr h ↦ coefficient-constant R k f u (omega arith) ∙ e ]) ∙ sym (coefficient_nought R k u))),
      )
      | inr r ↦ r
    ]

below : {E : Type 0} (R : Ring E) (k : ℕ) (f : Polynomial E k) (d : ℕ) → Degree R k f d → Below R k f (suc d) 0
below R k f d D u l h = D.ends u l (omega arith)

leads : {E : Type 0} (R : Ring E) → ((x : E) → (x ≡ R.zero) ⊎ (x ≢ R.zero)) → (k : ℕ) (f : Polynomial E k) (d : ℕ) → f ≢ (Poly R k).zero → Degree R k f d → Lead R k f d 0
leads R decide k f d n D =
    elim (lead_or_below R decide k f d 0 (below R k f d D)) [
      | inl p ↦ p
      | inr b ↦ let r = reaches R k f d n D in absurd (r.3 (b r.0 r.1 (omega (arith, r.2))))
    ]

module _ {E : Type 0} (M : Model E) (S : Sound M) (k : ℕ) where
  pub degree_only : (f : Polynomial E k) (d e : ℕ) → Degree M.ring k f d → Degree M.ring k f e → d ≡ e
  degree_only f d e D G =
      elim (cases_order d e) [
        | inl z ↦ z
        | inr (inl l) ↦ absurd (past d e D G l)
        | inr (inr l) ↦ absurd (past e d G D l)
      ]
    where
      past : (d e : ℕ) → Degree M.ring k f d → Degree M.ring k f e → d < e → ⊥
      past d e D G l = elim G.reached [ inl z ↦ omega arith | inr r ↦ r.3 (D.ends r.0 r.1 (omega (arith, r.2))) ]

  pub degree_of-product : (f g : Polynomial E k) → f ≢ (Poly M.ring k).zero → g ≢ (Poly M.ring k).zero → (d e : ℕ) → Degree M.ring k f d → Degree M.ring k g e
      → Degree M.ring k ((Poly M.ring k).mul f g) (d + e)
  degree_of-product f g m n d e D G =
      let R = M.ring in
      let p = below R k f d D in
      let q = below R k g e G in
      record {
        ends = λ u l h. product-below S.laws k f g (suc d) (suc e) 0 0 p q u l (omega arith);
        reached =
            let decide = zero_or_not M S in
            let r = product_leads S.laws S.integral k f g d e 0 0 p q (leads R decide k f d m D) (leads R decide k g e n G) in
            inr (r.0, r.1, omega (arith, r.2), r.3);
      }

  pub degree_of_sum : (f g : Polynomial E k) (d e h : ℕ) → Degree M.ring k f d → Degree M.ring k g e → Degree M.ring k ((Poly M.ring k).add f g) h → h ≤ max d e
  degree_of_sum f g d e h D G H =
      elim (cases_lt (max d e) h) [
        | inl l ↦ elim H.reached [
          | inl z ↦ absurd (omega arith)
          | inr r ↦
              let u = r.0 in
              absurd (r.3 (coefficient-add M.ring k f g u
              ∙ cc (D.ends u r.1 (omega (arith, r.2)), G.ends u r.1 (omega (arith, r.2)), S.laws.add-zero M.ring.zero)))
        ]
        | inr l ↦ l
      ]
