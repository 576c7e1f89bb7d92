-- What the entries of a table stand for, over a domain's model M and in k letters.
use Rattle.std.specs.Prelude.{◌≡◌, ℕ, ◌*◌, ◌≤◌, true, List, [], ◌∷◌, length}
use Rattle.domain.specs.Model.{Model}
use Rattle.polynomial.specs.Entries.{Entry as Node, look, trees}
use Rattle.polynomial.specs.Lists.{Distinct}
use Rattle.polynomial.specs.Polynomials.{Polynomial}
use Rattle.polynomial.specs.Trees.{Tree, Reduced, Lawful, tree_mass, tree_degree, value}
use Rattle.diagram.specs.Places.{All}
use Rattle.diagram.specs.declared.entry.Entry.{Entry}
use Rattle.diagram.specs.declared.entry.Reference.{Reference}

-- an entry with the elements that its weights are the codes of
abbrev pub node_of : {E : Type 0} → Model E → Entry → Node E
node_of M e =
    record { letter = e.letter; p = M.value e.additive.weight; lo = e.additive.target; q = M.value e.multiplicative.weight; hi = e.multiplicative.target }

abbrev pub nodes : {E : Type 0} → Model E → List Entry → List (Node E)
nodes M [] = []
nodes M (e ∷ es) = node_of M e ∷ nodes M es

-- the entry with a number, unfolded
abbrev pub tree : {E : Type 0} → Model E → List Entry → ℕ → Tree E
tree M es n = look (trees (nodes M es)) n

-- the polynomial that a reference stands for
abbrev pub of : {E : Type 0} (M : Model E) (k : ℕ) → List Entry → Reference → Polynomial E k
of M k es f = value M.ring k (M.value f.weight) (tree M es f.entry)

-- and its mass
abbrev pub mass_of : {E : Type 0} → Model E → List Entry → Reference → ℕ
mass_of M es f = M.size (M.value f.weight) * tree_mass M (tree M es f.entry)

-- both weights of an entry are codes
abbrev pub Coded : {E : Type 0} → Model E → ℕ → Entry → Type 0
Coded M n e = (M.coded e.additive.weight ≡ true) × (M.coded e.multiplicative.weight ≡ true)

-- the weight is a code, and the mass within the limit
pub record LightIn {E : Type 0} (M : Model E) (es : List Entry) (f : Reference) : Type 0 where
  pub coded : M.coded f.weight ≡ true
  pub light : mass_of M es f ≤ M.limit

-- a lawful reference: the weight is a code and the entry is there; the weight is zero only at 1, and the mass is within the limit
pub record LawfulIn {E : Type 0} (M : Model E) (es : List Entry) (f : Reference) : Type 0 where
  pub coded : M.coded f.weight ≡ true
  pub inside : f.entry ≤ length es
  pub lawful : Lawful M (M.value f.weight) (tree M es f.entry)

-- a table from its making on: every entry is coded and reduced and within the limit, and no two are alike
pub record Kept {E : Type 0} (M : Model E) (k : ℕ) (es : List Entry) : Type 0 where
  pub coded : All (Coded M) es
  pub reduced : (n : ℕ) → n ≤ length es → Reduced M k (tree M es n)
  pub distinct : Distinct (trees (nodes M es))
  pub light : (n : ℕ) → n ≤ length es → tree_mass M (tree M es n) ≤ M.limit

-- lawful references stay lawful, and stand for what they stood for
abbrev pub Stays : {E : Type 0} → Model E → ℕ → List Entry → List Entry → Type 0
Stays M k es fs = (f : Reference) → LawfulIn M es f → LawfulIn M fs f × (of M k fs f ≡ of M k es f)

-- the highest degree of a product
abbrev pub most_degree : ℕ
most_degree = 48

-- no entry has a higher degree
abbrev pub ShallowOver : {E : Type 0} → Model E → List Entry → Type 0
ShallowOver M es = (n : ℕ) → n ≤ length es → tree_degree (tree M es n) ≤ most_degree
