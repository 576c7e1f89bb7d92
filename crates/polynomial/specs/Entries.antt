-- Lists of entries that lead to one another by number. Number 0 stands for 1, number i + 1 is what the list has at i.
use Rattle.std.specs.Prelude.{ℕ, zero, suc, ◌≤◌, List, [], ◌∷◌, ◌++◌, slice_index_or}
use Rattle.polynomial.specs.Trees.{Tree, leaf, node}

-- an entry: its letter, the additive edge (p, lo) and the multiplicative edge (q, hi)
pub record Entry (E : Type 0) : Type 0 where
  pub letter : ℕ
  pub p : E
  pub lo : ℕ
  pub q : E
  pub hi : ℕ

-- the tree with a number
abbrev pub look : {E : Type 0} → List (Tree E) → ℕ → Tree E
look ts zero = leaf
look ts (suc i) = slice_index_or ts i leaf

-- an entry, unfolded over the trees of those before it
abbrev pub stands : {E : Type 0} → List (Tree E) → Entry E → Tree E
stands ts e = node e.letter e.p (look ts e.lo) e.q (look ts e.hi)

abbrev pub trees_after : {E : Type 0} → List (Tree E) → List (Entry E) → List (Tree E)
trees_after ts [] = ts
trees_after ts (e ∷ es) = trees_after (ts ++ (stands ts e ∷ [])) es

-- all entries of a list, unfolded in their order
abbrev pub trees : {E : Type 0} → List (Entry E) → List (Tree E)
trees es = trees_after [] es

-- both edges lead to numbers up to n
pub record Edges {E : Type 0} (n : ℕ) (e : Entry E) : Type 0 where
  pub lo : e.lo ≤ n
  pub hi : e.hi ≤ n

-- each entry leads to lower numbers, the first being number n + 1
abbrev pub Linked : {E : Type 0} → ℕ → List (Entry E) → Type 0
Linked n [] = Unit {0}
Linked n (e ∷ es) = Edges n e × Linked (suc n) es
