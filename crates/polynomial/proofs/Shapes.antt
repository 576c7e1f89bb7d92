-- Statements that the proofs pass through: rivals told by their trees, and references with the mass of their polynomial.
use Rattle.std.proofs.Common.{◌≡◌, ℕ, ◌*◌, ◌<◌, ◌≤◌, List, [], ◌∷◌, ◌++◌, length}
use Rattle.domain.specs.Model.{Model}
use Rattle.polynomial.specs.Diagrams.{Diagram}
use Rattle.polynomial.specs.Entries.{Entry, look, stands, trees}
use Rattle.polynomial.specs.Polynomials.{Polynomial}
use Rattle.polynomial.specs.Trees.{Tree, After, From, Reduced, tree_mass, Lawful, value}

-- an entry of a rival, over the trees of those before it
pub record Sits {E : Type 0} (k : ℕ) (ts : List (Tree E)) (e : Entry E) : Type 0 where
  pub known : e.letter < k
  pub lo_before : e.lo ≤ length ts
  pub hi_before : e.hi ≤ length ts
  pub after : After e.letter (look ts e.lo)
  pub from : From e.letter (look ts e.hi)

abbrev pub ShapeAfter : {E : Type 0} (k : ℕ) → List (Tree E) → List (Entry E) → Type 0
ShapeAfter k ts [] = Unit {0}
ShapeAfter k ts (e ∷ es) = Sits k ts e × ShapeAfter k (ts ++ (stands ts e ∷ [])) es

abbrev pub Shape : {E : Type 0} (k : ℕ) → List (Entry E) → Type 0
Shape k es = ShapeAfter k [] es

-- no rival has fewer entries than the trees in t
abbrev pub Minimal : {E : Type 0} (M : Model E) (k : ℕ) → Type 0
Minimal {E} M k =
    (t : Tree E) → Reduced M k t → (w : E) → Lawful M w t → (ts : List (Tree E)) → Diagram t ts → (es : List (Entry E)) → Shape k es → (c : E) (r : ℕ) → value M.ring k w t ≡ value M.ring k c (look (trees es) r) → length ts ≤ length es

-- one polynomial has one weight and one reduced tree
abbrev pub Determined : {E : Type 0} (M : Model E) (k : ℕ) → Type 0
Determined {E} M k =
    (t u : Tree E) → Reduced M k t → Reduced M k u → (v w : E) → Lawful M v t → Lawful M w u → value M.ring k v t ≡ value M.ring k w u → (v ≡ w) × (t ≡ u)

-- a weight and a reduced tree that stand for f, of the mass s
pub record Found {E : Type 0} (M : Model E) (k : ℕ) (f : Polynomial E k) (s : ℕ) : Type 0 where
  pub w : E
  pub t : Tree E
  pub reduced : Reduced M k t
  pub lawful : Lawful M w t
  pub means : value M.ring k w t ≡ f
  pub weighs : M.size w * tree_mass M t ≡ s
