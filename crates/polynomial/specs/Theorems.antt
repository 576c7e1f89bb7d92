-- The theorems about polynomials and reduced diagrams. Each holds over every domain and for every number k of letters.
use Rattle.std.specs.Prelude.{◌≡◌, ℕ, ◌+◌, ◌*◌, ◌≤◌, max, Bool, true, false, ◌≢◌, ◌⊎◌, ◌↔◌, List, ◌++◌, length}
use Rattle.domain.specs.Model.{Model}
use Rattle.domain.specs.Ring.{Laws}
use Rattle.polynomial.specs.Coefficients.{coefficient, splits}
use Rattle.polynomial.specs.Degree.{Degree}
use Rattle.polynomial.specs.Diagrams.{Inside, Diagram, InDiagram}
use Rattle.polynomial.specs.Entries.{Entry, stands, trees, Edges, Linked}
use Rattle.polynomial.specs.Growth.{Grown, Lacks, Overfull, Outcome}
use Rattle.polynomial.specs.Lists.{Among, Distinct}
use Rattle.polynomial.specs.Masses.{Bounded, mass}
use Rattle.polynomial.specs.Needs.{Needs}
use Rattle.polynomial.specs.Polynomials.{Polynomial, Poly, letter, difference, scaled}
use Rattle.polynomial.specs.Rivals.{Rival}
use Rattle.polynomial.specs.Trees.{Tree, Reduced, tree_mass, tree_degree, height, Lawful, meaning, value}
use Rattle.polynomial.specs.Working.{Constant, Leads, Trails, Working}

-- the polynomials in k letters are a commutative ring
abbrev pub RingLaws : {E : Type 0} (M : Model E) (k : ℕ) → Type 0
RingLaws M k = Laws (Poly M.ring k)

-- coefficients make the polynomial; those of a sum, a difference, a scaled polynomial and a product
pub record CoefficientLaws {E : Type 0} (M : Model E) (k : ℕ) : Type 0 where
  pub same : (f g : Polynomial E k) → ((u : List ℕ) → length u ≤ k → coefficient M.ring k f u ≡ coefficient M.ring k g u) → f ≡ g
  pub sum : (f g : Polynomial E k) (u : List ℕ) → coefficient M.ring k ((Poly M.ring k).add f g) u ≡ M.ring.add (coefficient M.ring k f u) (coefficient M.ring k g u)
  pub negation : (f : Polynomial E k) (u : List ℕ) → coefficient M.ring k ((Poly M.ring k).neg f) u ≡ M.ring.neg (coefficient M.ring k f u)
  pub minus : (f g : Polynomial E k) (u : List ℕ)
      → coefficient M.ring k (difference M.ring k f g) u ≡ M.ring.add (coefficient M.ring k f u) (M.ring.neg (coefficient M.ring k g u))
  pub times : (c : E) (f : Polynomial E k) (u : List ℕ) → coefficient M.ring k (scaled M.ring k c f) u ≡ M.ring.mul c (coefficient M.ring k f u)
  pub product : (f g : Polynomial E k) (u : List ℕ) → length u ≤ k
      → coefficient M.ring k ((Poly M.ring k).mul f g) u ≡ splits M.ring u (λ a b. M.ring.mul (coefficient M.ring k f a) (coefficient M.ring k g b))

-- mass does not depend on the bound; of a scaled polynomial, a sum and a product; of an entry and of a reference from the edges
pub record MassLaws {E : Type 0} (M : Model E) (k : ℕ) : Type 0 where
  pub bound : (d e : ℕ) (f : Polynomial E k) → Bounded M.ring d k f → d ≤ e → mass M e k f ≡ mass M d k f
  pub times : (d : ℕ) (c : E) (f : Polynomial E k) → mass M d k (scaled M.ring k c f) ≡ M.size c * mass M d k f
  pub sum : (d : ℕ) (f g : Polynomial E k) → mass M d k ((Poly M.ring k).add f g) ≤ mass M d k f + mass M d k g
  pub product : (d : ℕ) (f g : Polynomial E k) → mass M d k ((Poly M.ring k).mul f g) ≤ mass M d k f * mass M d k g
  pub bounded : (w : E) (t : Tree E) → Bounded M.ring (height t) k (value M.ring k w t)
  pub entry : (d : ℕ) (t : Tree E) → Reduced M k t → height t ≤ d → mass M d k (meaning M.ring k t) ≡ tree_mass M t
  pub reference : (d : ℕ) (w : E) (t : Tree E) → Reduced M k t → height t ≤ d → mass M d k (value M.ring k w t) ≡ M.size w * tree_mass M t
  -- so the weight of a lawful reference has a code
  pub weight : (w : E) (t : Tree E) → Reduced M k t → Lawful M w t → M.size w ≤ M.limit

-- a polynomial has one degree; of an entry from its edges, of a product of two that are not zero, of a sum
pub record DegreeLaws {E : Type 0} (M : Model E) (k : ℕ) : Type 0 where
  pub only : (f : Polynomial E k) (d e : ℕ) → Degree M.ring k f d → Degree M.ring k f e → d ≡ e
  pub entry : (t : Tree E) → Reduced M k t → Degree M.ring k (meaning M.ring k t) (tree_degree t)
  pub reference : (t : Tree E) → Reduced M k t → (w : E) → w ≢ M.ring.zero → Degree M.ring k (value M.ring k w t) (tree_degree t)
  pub product : (f g : Polynomial E k) → f ≢ (Poly M.ring k).zero → g ≢ (Poly M.ring k).zero → (d e : ℕ) → Degree M.ring k f d → Degree M.ring k g e
      → Degree M.ring k ((Poly M.ring k).mul f g) (d + e)
  pub sum : (f g : Polynomial E k) (d e h : ℕ) → Degree M.ring k f d → Degree M.ring k g e → Degree M.ring k ((Poly M.ring k).add f g) h → h ≤ max d e

-- Canonicity: two lawful references to reduced entries have the same coefficient at every monomial exactly when weight and
-- entry are the same.
abbrev pub Canonical : {E : Type 0} (M : Model E) (k : ℕ) → Type 0
Canonical {E} M k =
    (t u : Tree E) → Reduced M k t → Reduced M k u → (v w : E) → Lawful M v t → Lawful M w u
    → ((e : List ℕ) → length e ≤ k → coefficient M.ring k (value M.ring k v t) e ≡ coefficient M.ring k (value M.ring k w u) e) ↔ ((v ≡ w) × (t ≡ u))

-- a lawful reference to a reduced entry that stands for f
pub record Reference {E : Type 0} (M : Model E) (k : ℕ) (f : Polynomial E k) : Type 0 where
  pub w : E
  pub t : Tree E
  pub reduced : Reduced M k t
  pub lawful : Lawful M w t
  pub means : value M.ring k w t ≡ f

-- Existence: each polynomial with a mass within the limit has one, and one only.
abbrev pub Existence : {E : Type 0} (M : Model E) (k : ℕ) → Type 0
Existence {E} M k =
    (d : ℕ) (f : Polynomial E k) → Bounded M.ring d k f → mass M d k f ≤ M.limit
    → (r : Reference M k f) × ((s : Reference M k f) → (r.w ≡ s.w) × (r.t ≡ s.t))

-- Minimality: no rival for the polynomial of a lawful reference has fewer entries than its diagram.
abbrev pub LeastEntries : {E : Type 0} (M : Model E) (k : ℕ) → Type 0
LeastEntries {E} M k =
    (t : Tree E) → Reduced M k t → (w : E) → Lawful M w t → (ts : List (Tree E)) → Diagram t ts
    → (es : List (Entry E)) → Rival M.ring k es (value M.ring k w t) → length ts ≤ length es

-- and a rival with as many exists
abbrev pub Attained : {E : Type 0} (M : Model E) (k : ℕ) → Type 0
Attained {E} M k =
    (t : Tree E) → Reduced M k t → (w : E) → Lawful M w t
    → (ts : List (Tree E)) × Diagram t ts × (es : List (Entry E)) × Rival M.ring k es (value M.ring k w t) × (length ts ≡ length es)

-- the diagram of a reference's polynomial is what its entry reaches, and can be told by the parts of the polynomial
pub record DiagramLaws {E : Type 0} (M : Model E) (k : ℕ) : Type 0 where
  pub reached : (t : Tree E) → Reduced M k t → (w : E) → Lawful M w t → (s : Tree E) → InDiagram M k (value M.ring k w t) s ↔ Inside s t
  pub by_parts : (t : Tree E) → Reduced M k t → (w : E) → Lawful M w t → (s : Tree E) → Needs M k (value M.ring k w t) s ↔ Inside s t

-- the working polynomials of f and g in each of the three cases, which exclude one another
pub record WorkingLaws {E : Type 0} (M : Model E) (k : ℕ) : Type 0 where
  pub constant : (f g : Polynomial E k) → Constant M.ring k f ⊎ Constant M.ring k g → (r : Polynomial E k) → Working M.ring k r f g → ⊥
  pub leading : (x : ℕ) (f a h g : Polynomial E k) → Leads M.ring k x f a h g → (r : Polynomial E k)
      → Working M.ring k r f g
      ↔ (Working M.ring k r a g ⊎ (Working M.ring k r h g ⊎ ((r ≡ (Poly M.ring k).mul (letter M.ring k x) ((Poly M.ring k).mul h g)) ⊎ (r ≡ (Poly M.ring k).mul f g))))
  pub trailing : (f g : Polynomial E k) → Trails M.ring k f g → (r : Polynomial E k) → Working M.ring k r f g ↔ Working M.ring k r g f

-- a list as the set of its items
abbrev pub Of : {A : Type 0} → List A → A → Type 0
Of l a = Among a l

-- growth under a capacity, by the entries of any lists ss and ts
pub record GrowthLaws (E : Type 0) (capacity : ℕ) : Type 0 where
  -- first by ss, then by ts is by both; no room for ts is then no room for both
  pub composed : (ss ts : List (Tree E)) (es₀ es₁ es₂ : List (Entry E)) (b : Bool) → Outcome capacity es₀ es₁ (Of ss) true → Outcome capacity es₁ es₂ (Of ts) b
      → Outcome capacity es₀ es₂ (Of (ss ++ ts)) b
  -- no room half-way is no room for the whole
  pub stopped : (ss ts : List (Tree E)) (es₀ es₁ : List (Entry E)) → Outcome capacity es₀ es₁ (Of ss) false → Outcome capacity es₀ es₁ (Of (ss ++ ts)) false
  -- the new length is determined: what was there and what was missing
  pub alike : (ss : List (Tree E)) (es es₁ es₂ : List (Entry E)) → Grown es es₁ (Of ss) → Grown es es₂ (Of ss) → length es₁ ≡ length es₂
  pub counted : (ss : List (Tree E)) (es es' : List (Entry E)) → Grown es es' (Of ss) → (ts : List (Tree E)) → Lacks es (Of ss) ts
      → ((t : Tree E) → Among t ss → Among t (trees es) ⊎ Among t ts) → length es' ≡ length es + length ts
  -- room and no room exclude one another
  pub never_both : (ss : List (Tree E)) (es es' : List (Entry E)) → Grown es es' (Of ss) → length es' ≤ capacity → Overfull es capacity (Of ss) → ⊥

-- the diagram of a reference is added or there is no room for it
abbrev pub Room : {E : Type 0} (M : Model E) (k : ℕ) → Type 0
Room {E} M k =
    (capacity : ℕ) (t : Tree E) → Reduced M k t → (w : E) → Lawful M w t → (es : List (Entry E)) → Distinct (trees es) → length es ≤ capacity
    → (b : Bool) × (es' : List (Entry E)) × Outcome capacity es es' (InDiagram M k (value M.ring k w t)) b

-- in a list without twins, an entry whose tree is there is there itself
abbrev pub KnownEntries : Type 0 → Type 0
KnownEntries E =
    (es : List (Entry E)) → Linked 0 es → Distinct (trees es) → (e : Entry E) → Edges (length (trees es)) e → Among (stands (trees es) e) (trees es) → Among e es
