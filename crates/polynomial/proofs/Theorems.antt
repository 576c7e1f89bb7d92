-- The theorems, from the laws of a domain.
use Rattle.std.proofs.Common.{ℕ, Bool, false, ◌↔◌, List, ◌++◌, sym, refl, ap, ◌∙◌, subst, ap₂, inl, inr, arith}
use Rattle.domain.specs.Model.{Model, Sound}
use Rattle.polynomial.specs.Coefficients.{coefficient}
use Rattle.polynomial.specs.Diagrams.{Inside, InDiagram}
use Rattle.polynomial.specs.Entries.{Entry}
use Rattle.polynomial.specs.Growth.{Either, Outcome}
use Rattle.polynomial.specs.Polynomials.{Poly}
use Rattle.polynomial.specs.Theorems.{RingLaws, CoefficientLaws, MassLaws, DegreeLaws, Canonical, Existence, LeastEntries, Attained, DiagramLaws, WorkingLaws, Of, GrowthLaws, Room, KnownEntries}
use Rattle.polynomial.specs.Trees.{Tree, Reduced, Lawful, value}
use Rattle.polynomial.proofs.Bounds.{bounded_value, mass_bound}
use Rattle.polynomial.proofs.Canonicity.{canonical as determined, le-mass}
use Rattle.polynomial.proofs.Capacity.{outcome_same, insert}
use Rattle.polynomial.proofs.CoefficientLaws.{coefficient_ext, coefficient-add, coefficient-neg, coefficient_scale, coefficient-mul}
use Rattle.polynomial.proofs.DegreeLaws.{degree_only, degree_of-product, degree_of_sum}
use Rattle.polynomial.proofs.TreeDegrees.{degree_is, degree_value}
use Rattle.polynomial.proofs.KnownEntries.{known_entry}
use Rattle.polynomial.proofs.ElementFacts.{facts}
use Rattle.polynomial.proofs.Pigeonhole.{among_left, among_right, among_either}
use Rattle.polynomial.proofs.References.{found}
use Rattle.polynomial.proofs.GrowingTrees.{equal_dec}
use Rattle.polynomial.proofs.GrowthLaws.{grown_alike, grown_length, then_done, stopped, not_both}
use Rattle.polynomial.proofs.TreeMasses.{mass_const, mass-tree, mass-value}
use Rattle.polynomial.proofs.Parts.{needs_inside, inside_needs}
use Rattle.polynomial.proofs.RivalShapes.{least_entries as fewest, attained as met}
use Rattle.polynomial.proofs.SeriesRing.{poly_laws}
use Rattle.polynomial.proofs.MassLaws.{mass_norm}
use Rattle.polynomial.proofs.WorkingLaws.{of_kinds, to_kinds, turned, constant_none}
use Rattle.polynomial.specs.Working.{other}

module _ {E : Type 0} (M : Model E) (S : Sound M) (k : ℕ) where
  pub ring_laws : RingLaws M k
  ring_laws = poly_laws S.laws k

  pub coefficient_laws : CoefficientLaws M k
  coefficient_laws =
      let R = M.ring in
      record {
        same = coefficient_ext R k;
        sum = coefficient-add R k;
        negation = coefficient-neg R k;
        minus = λ f g u. coefficient-add R k f ((Poly R k).neg g) u ∙ ap (R.add (coefficient R k f u)) (coefficient-neg R k g u);
        times = coefficient_scale S.laws k;
        product = coefficient-mul R k;
      }

  pub mass_laws : MassLaws M k
  mass_laws = record {
    bound = λ d e. mass_bound M (facts S) k d e;
    times = λ d. mass_const M (facts S) d k;
    sum = λ d. (mass_norm M (facts S) d k).sum;
    product = λ d. (mass_norm M (facts S) d k).prod;
    bounded = bounded_value S.laws k;
    entry = λ d. mass-tree M (facts S) d k;
    reference = λ d. mass-value M (facts S) d k;
    weight = λ w t r l. let h = le-mass M (facts S) k w t r in omega (arith, h, l.light);
  }

  pub degree_laws : DegreeLaws M k
  degree_laws = record {
    only = degree_only M S k;
    entry = degree_is M (facts S) k;
    reference = degree_value M (facts S) k;
    product = degree_of-product M S k;
    sum = degree_of_sum M S k;
  }

  pub canonical : Canonical M k
  canonical t u r s v w lv lw = (
    λ h. determined M (facts S) k t u r s v w lv lw (coefficient_ext M.ring k (value M.ring k v t) (value M.ring k w u) h),
    λ e i l. ap₂ (λ (x : E) (y : Tree E). coefficient M.ring k (value M.ring k x y) i) e.0 e.1,
  )

  pub existence : Existence M k
  existence d f b l =
      let F = found M (facts S) d k f b l in (
        record { w = F.w; t = F.t; reduced = F.reduced; lawful = F.lawful; means = F.means },
        λ s. determined M (facts S) k F.t s.t F.reduced s.reduced F.w s.w F.lawful s.lawful (F.means ∙ sym s.means),
      )

  pub least_entries : LeastEntries M k
  least_entries = fewest M (facts S) k

  pub attained : Attained M k
  attained = met M (facts S) k

  -- a reference of the same polynomial is the same reference
  reached : (t : Tree E) → Reduced M k t → (w : E) → Lawful M w t → (s : Tree E) → InDiagram M k (value M.ring k w t) s ↔ Inside s t
  reached t r w l s = (
    λ D. subst (Inside s) (determined M (facts S) k D.t t D.reduced r D.w w D.lawful l D.means).1 D.reached,
    λ i. record { w = w; t = t; reduced = r; lawful = l; means = refl; reached = i },
  )

  pub diagram_laws : DiagramLaws M k
  diagram_laws = record {
    reached = reached;
    by_parts = λ t r w l s. (needs_inside M (facts S) k t r w l s, inside_needs M (facts S) k t r w l s);
  }

  pub working_laws : WorkingLaws M k
  working_laws = record {
    constant = constant_none M (facts S) k;
    leading = λ x f a h g L r. (to_kinds M (facts S) k x f a h g r L, of_kinds M (facts S) k x f a h g r L);
    trailing = λ f g T r. (λ w. turned M (facts S) k r w T, other f g T);
  }

  pub room : Room M k
  room capacity t r w l es d h =
      let D = insert capacity (equal_dec M (facts S)) t es d h in (
        D.ok,
        D.es',
        outcome_same capacity es D.es' (λ s. Inside s t) (InDiagram M k (value M.ring k w t)) (λ s. (reached t r w l s).1) (λ s. (reached t r w l s).0) D.ok D.outcome,
      )

module _ (E : Type 0) where
  -- the union of two lists is the list of both
  to_both : (ss ts : List (Tree E)) (t : Tree E) → Either (Of ss) (Of ts) t → Of (ss ++ ts) t
  to_both ss ts t (inl a) = among_left t ss ts a
  to_both ss ts t (inr a) = among_right t ss ts a

  both : (capacity : ℕ) (ss ts : List (Tree E)) (es es' : List (Entry E)) (b : Bool) → Outcome capacity es es' (Either (Of ss) (Of ts)) b → Outcome capacity es es' (Of (ss ++ ts)) b
  both capacity ss ts es es' b = outcome_same capacity es es' (Either (Of ss) (Of ts)) (Of (ss ++ ts)) (to_both ss ts) (λ t. among_either t ss ts) b

  pub growth_laws : (capacity : ℕ) → GrowthLaws E capacity
  growth_laws capacity = record {
    composed = λ ss ts es₀ es₁ es₂ b o p. both capacity ss ts es₀ es₂ b (then_done capacity es₀ es₁ es₂ (Of ss) (Of ts) b o p);
    stopped = λ ss ts es₀ es₁ o. both capacity ss ts es₀ es₁ false (stopped capacity es₀ es₁ (Of ss) (Of ts) o);
    alike = λ ss es es₁ es₂. grown_alike es es₁ es₂ (Of ss);
    counted = λ ss es es'. grown_length es es' (Of ss);
    never_both = λ ss es es'. not_both es es' capacity (Of ss);
  }

  pub known_entries : KnownEntries E
  known_entries = known_entry {E = E}
