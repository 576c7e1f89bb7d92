-- The degrees of a table that has grown by one entry at most, and of a sum.
use Rattle.std.proofs.Common.{◌≡◌, ℕ, suc, ◌+◌, ◌≤◌, Bool, true, false, max, List, [], ◌∷◌, ◌++◌, length, sym, refl, ap, ◌∙◌, subst, inl, inr, arith, length-append}
use mathlib.Core.Bool.{true≢false}
use native.Mathlib.Decide.{dec_lt}
use Rattle.std.proofs.Math.Nat.{max-le}
use Rattle.domain.specs.Model.{Model, Sound}
use Rattle.polynomial.specs.Coefficients.{coefficient}
use Rattle.polynomial.specs.Degree.{Degree}
use Rattle.polynomial.specs.Elements.{is_zero}
use Rattle.polynomial.specs.Polynomials.{Poly}
use Rattle.polynomial.specs.Trees.{Tree, Reduced, Lawful, tree_degree, meaning, value}
use Rattle.polynomial.proofs.ElementFacts.{facts}
use Rattle.polynomial.proofs.LeadingTerms.{product-below}
use Rattle.polynomial.proofs.Rings.{zero-mul}
use Rattle.polynomial.proofs.Theorems.{coefficient_laws, degree_laws}
use Rattle.diagram.specs.Nodes.{Numbered}
use Rattle.diagram.specs.Tables.{tree, most_degree, ShallowOver}
use Rattle.diagram.specs.declared.entry.Entry.{Entry}
use Rattle.diagram.proofs.Numbering.{tree_last, tree_more}

module _ {E : Type 0} (M : Model E) (es fs : List Entry) (e : Entry) (n : ℕ) (shallow : ShallowOver M es) (low : e.additive.target ≤ length es) (high : 1 + tree_degree (tree M es e.multiplicative.target) ≤ most_degree) where
  more : ShallowOver M (es ++ e ∷ [])
  more i h =
      elim (dec_lt (length es) i) [
        | yes b ↦ let at : i ≡ suc (length es) = omega (arith, h, length-append es (e ∷ [])) in
            subst (λ k. tree_degree (tree M (es ++ e ∷ []) k) ≤ most_degree) (sym at) (subst (λ t. tree_degree t ≤ most_degree) (sym (tree_last M es e)) (max-le (shallow e.additive.target low) high))
        | no b ↦ let below : i ≤ length es = omega arith in subst (λ t. tree_degree t ≤ most_degree) (sym (tree_more M es (e ∷ []) i below)) (shallow i below)
      ]

  pub shallow_on : Numbered es fs e n → ShallowOver M fs
  shallow_on N = elim N.grown [ inl q ↦ subst (ShallowOver M) (sym q) shallow | inr q ↦ subst (ShallowOver M) (sym q.0) more ]

module _ {E : Type 0} (M : Model E) (S : Sound M) (k : ℕ) where
  -- what a lawful reference stands for has the degree of its entry
  degree_of : (w : E) (t : Tree E) → Reduced M k t → Lawful M w t → Degree M.ring k (value M.ring k w t) (tree_degree t)
  degree_of w t r l = go (is_zero M w) refl
    where
      go : (b : Bool) → is_zero M w ≡ b → Degree M.ring k (value M.ring k w t) (tree_degree t)
      go true z =
          let e = (facts S).is_zero_only w z in
          record {
            ends = λ u _ _. (coefficient_laws M S k).times w (meaning M.ring k t) u ∙ (ap (λ c. M.ring.mul c (coefficient M.ring k (meaning M.ring k t) u)) e ∙ zero-mul S.laws (coefficient M.ring k (meaning M.ring k t) u));
            reached = inl (ap tree_degree (l.bare e));
          }
      go false z = (degree_laws M S k).reference t r w (λ e. true≢false (sym (ap (is_zero M) e ∙ (facts S).zero_is) ∙ z))

  pub degree_sum : (w v z : E) (t s u : Tree E) → Reduced M k t → Reduced M k s → Reduced M k u → Lawful M w t → Lawful M v s → Lawful M z u
      → value M.ring k w t ≡ (Poly M.ring k).add (value M.ring k v s) (value M.ring k z u) → tree_degree t ≤ max (tree_degree s) (tree_degree u)
  degree_sum w v z t s u rt rs ru lt ls lu e =
      (degree_laws M S k).sum (value M.ring k v s) (value M.ring k z u) (tree_degree s) (tree_degree u) (tree_degree t) (degree_of v s rs ls) (degree_of z u ru lu)
      (subst (λ p. Degree M.ring k p (tree_degree t)) e (degree_of w t rt lt))

  pub degree_product : (w v z : E) (t s u : Tree E) → Reduced M k t → Reduced M k s → Reduced M k u → Lawful M w t → Lawful M v s → Lawful M z u
      → value M.ring k w t ≡ (Poly M.ring k).mul (value M.ring k v s) (value M.ring k z u) → tree_degree t ≤ tree_degree s + tree_degree u
  degree_product w v z t s u rt rs ru lt ls lu e =
      let d = tree_degree s in
      let h = tree_degree u in
      let D = degree_of v s rs ls in
      let G = degree_of z u ru lu in
      elim (dec_lt (d + h) (tree_degree t)) [
        | no l ↦ omega arith
        | yes l ↦ elim (degree_of w t rt lt).reached [
          | inl n ↦ absurd (omega arith)
          | inr r ↦ absurd (r.3 (ap (λ p. coefficient M.ring k p r.0) e
              ∙ product-below S.laws k (value M.ring k v s) (value M.ring k z u) (suc d) (suc h) 0 0 (λ x i a. D.ends x i (omega arith)) (λ x i a. G.ends x i (omega arith)) r.0 r.1 (omega (arith, r.2))))
        ]
      ]
