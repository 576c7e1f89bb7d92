-- What the calls on a table answer.
use Rattle.std.specs.Prelude.{◌≡◌, ℕ, ◌≤◌, List, length}
use Rattle.domain.specs.Model.{Model}
use Rattle.domain.specs.declared.fault.Fault.{Fault}
use Rattle.domain.specs.declared.fault.Fault.TheVariants.{Unlawful}
use Rattle.polynomial.specs.Coefficients.{coefficient}
use Rattle.polynomial.specs.Polynomials.{Polynomial}
use Rattle.diagram.specs.Checks.{Else, Never}
use Rattle.diagram.specs.Tables.{of, LawfulIn}
use Rattle.diagram.specs.declared.comparison.Comparison.{Comparison}
use Rattle.diagram.specs.declared.comparison.Comparison.TheVariants.{Equal, Different}
use Rattle.diagram.specs.declared.entry.Entry.{Entry}
use Rattle.diagram.specs.declared.entry.Reference.{Reference}

-- f is lawful and stands for h
pub record StandsFor {E : Type 0} (M : Model E) (k : ℕ) (es : List Entry) (h : Polynomial E k) (f : Reference) : Type 0 where
  pub lawful : LawfulIn M es f
  pub is : of M k es f ≡ h

-- a comparison tells whether P holds
abbrev pub Tells : Type 0 → Comparison → Type 0
Tells P Equal = P
Tells P Different = P → ⊥

-- f and g have the same coefficient at every monomial
abbrev pub Agree : {E : Type 0} → Model E → ℕ → List Entry → Reference → Reference → Type 0
Agree M k es f g = (u : List ℕ) → length u ≤ k → coefficient M.ring k (of M k es f) u ≡ coefficient M.ring k (of M k es g) u

-- two lawful references, and whether they are the same
pub record Compared {E : Type 0} (M : Model E) (es : List Entry) (f g : Reference) (c : Comparison) : Type 0 where
  pub first : LawfulIn M es f
  pub second : LawfulIn M es g
  pub same : Tells (f ≡ g) c

-- the refusal of the first that is not lawful
abbrev pub UnlawfulOf : {E : Type 0} → Model E → List Entry → Reference → Reference → Fault → Type 0
UnlawfulOf M es f g = Else (LawfulIn M es f) (Unlawful f.entry) (Else (LawfulIn M es g) (Unlawful g.entry) Never)
