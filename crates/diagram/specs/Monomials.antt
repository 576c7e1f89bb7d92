-- The coefficient at a monomial.
use Rattle.std.specs.Prelude.{◌≡◌, ℕ, suc, ◌<◌, true, List, length, slice_index, slice_index_or, slice_set}
use Rattle.domain.specs.Model.{Model}
use Rattle.domain.specs.declared.fault.Fault.{Fault}
use Rattle.domain.specs.declared.fault.Fault.TheVariants.{Unlawful, BadExponents}
use Rattle.domain.specs.declared.number.Number.{Number}
use Rattle.polynomial.specs.Coefficients.{coefficient}
use Rattle.diagram.specs.Checks.{Else}
use Rattle.diagram.specs.Tables.{of, LawfulIn}
use Rattle.diagram.specs.declared.entry.Edge.{Edge}
use Rattle.diagram.specs.declared.entry.Entry.{Entry}
use Rattle.diagram.specs.declared.entry.Reference.{Reference}

-- nothing of the monomial is left
abbrev pub Spent : List ℕ → Type 0
Spent u = (i : ℕ) → i < length u → slice_index u i ≡ 0

-- the multiplicative edge, and one letter less; or the additive edge where the letter is used up
pub record Used (e : Entry) (u v : List ℕ) (r : Edge) : Type 0 where
  pub rest : ℕ
  pub inside : e.letter < length u
  pub some : slice_index_or u e.letter 0 ≡ suc rest
  pub less : v ≡ slice_set u e.letter rest
  pub edge : r ≡ e.multiplicative

pub record Unused (e : Entry) (u v : List ℕ) (r : Edge) : Type 0 where
  pub none : e.letter < length u → slice_index u e.letter ≡ 0
  pub same : v ≡ u
  pub edge : r ≡ e.additive

-- w is the code of the coefficient of f at the monomial u
pub record CoefficientAt {E : Type 0} (M : Model E) (k : ℕ) (es : List Entry) (f : Reference) (u : List ℕ) (w : Number) : Type 0 where
  pub coded : M.coded w ≡ true
  pub is : M.value w ≡ coefficient M.ring k (of M k es f) u

-- why a coefficient is refused: 5, then 13; or a later refusal
abbrev pub BadMonomial : {E : Type 0} → Model E → ℕ → List Entry → Reference → List ℕ → (Fault → Type 0) → Fault → Type 0
BadMonomial M k es f u rest = Else (LawfulIn M es f) (Unlawful f.entry) (Else (length u ≡ k) (BadExponents (length u)) rest)

-- the reference is lawful, there is one exponent for each letter, and w is the code of the coefficient there
pub record Found {E : Type 0} (M : Model E) (k : ℕ) (es : List Entry) (f : Reference) (u : List ℕ) (w : Number) : Type 0 where
  pub lawful : LawfulIn M es f
  pub long : length u ≡ k
  pub coefficient_at : CoefficientAt M k es f u w
