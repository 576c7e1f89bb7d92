-- The product of two references.
use Rattle.std.specs.Prelude.{◌≡◌, ℕ, ◌+◌, ◌*◌, ◌<◌, ◌≤◌, true, ◌⊎◌, List}
use Rattle.domain.specs.Model.{Model}
use Rattle.domain.specs.declared.fault.Fault.{Fault}
use Rattle.domain.specs.declared.fault.Fault.TheVariants.{Unlawful, OverLimit, OverDegree}
use Rattle.domain.specs.declared.number.Number.{Number}
use Rattle.polynomial.specs.Diagrams.{InDiagram}
use Rattle.polynomial.specs.Polynomials.{Polynomial}
use Rattle.polynomial.specs.Trees.{Tree, tree_degree}
use Rattle.polynomial.specs.Working.{Working}
use Rattle.diagram.specs.Checks.{Else}
use Rattle.diagram.specs.Parts.{Has}
use Rattle.diagram.specs.Tables.{tree, mass_of, LawfulIn, Kept, most_degree}
use Rattle.diagram.specs.declared.entry.Entry.{Entry}
use Rattle.diagram.specs.declared.entry.Reference.{Reference}

-- s is in the diagram of some working polynomial of f and g
pub record WorkingEntries {E : Type 0} (M : Model E) (k : ℕ) (f g : Polynomial E k) (s : Tree E) : Type 0 where
  pub polynomial : Polynomial E k
  pub works : Working M.ring k polynomial f g
  pub entry : InDiagram M k polynomial s

-- two lawful references whose masses multiplied are at most the limit
pub record Multipliable {E : Type 0} (M : Model E) (k : ℕ) (es : List Entry) (f g : Reference) : Type 0 where
  pub kept : Kept M k es
  pub first : LawfulIn M es f
  pub second : LawfulIn M es g
  pub light : mass_of M es f * mass_of M es g ≤ M.limit

-- a code and a lawful reference whose size and mass multiplied are at most the limit
pub record Scalable {E : Type 0} (M : Model E) (k : ℕ) (es : List Entry) (a : Number) (g : Reference) : Type 0 where
  pub kept : Kept M k es
  pub coded : M.coded a ≡ true
  pub second : LawfulIn M es g
  pub light : M.size (M.value a) * mass_of M es g ≤ M.limit

-- of f and g, u is the one with the higher letter x, or f where both have it, and o is the other
pub record Ordered (es : List Entry) (f g : Reference) (x : ℕ) (u o : Reference) : Type 0 where
  pub next : ℕ
  pub has : Has es u.entry x
  pub beside : Has es o.entry next
  pub which : ((u ≡ f) × (o ≡ g) × (x ≤ next)) ⊎ ((u ≡ g) × (o ≡ f) × (x < next))

-- two lawful references of any table whose masses multiplied are at most the limit, and whose degrees add up to a product's
pub record SmallProduct {E : Type 0} (M : Model E) (es : List Entry) (f g : Reference) : Type 0 where
  pub first : LawfulIn M es f
  pub second : LawfulIn M es g
  pub light : mass_of M es f * mass_of M es g ≤ M.limit
  pub degree : tree_degree (tree M es f.entry) + tree_degree (tree M es g.entry) ≤ most_degree

-- why a product is refused: 5 for f, then for g, then 6, then 7; or a later refusal
abbrev pub BadProduct : {E : Type 0} → Model E → List Entry → Reference → Reference → (Fault → Type 0) → Fault → Type 0
BadProduct M es f g rest =
    Else (LawfulIn M es f) (Unlawful f.entry) (Else (LawfulIn M es g) (Unlawful g.entry) (Else (mass_of M es f * mass_of M es g ≤ M.limit) (OverLimit M.limit)
    (Else (tree_degree (tree M es f.entry) + tree_degree (tree M es g.entry) ≤ most_degree) (OverDegree (tree_degree (tree M es f.entry) + tree_degree (tree M es g.entry))) rest)))
