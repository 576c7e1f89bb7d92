-- The diagram of a polynomial: the entries that are reached from its reduced form.
use Rattle.std.specs.Prelude.{◌≡◌, ℕ, ◌⊎◌, List}
use Rattle.domain.specs.Model.{Model}
use Rattle.polynomial.specs.Lists.{Among, Distinct}
use Rattle.polynomial.specs.Polynomials.{Polynomial}
use Rattle.polynomial.specs.Trees.{Tree, leaf, node, Reduced, Lawful, value}

-- s is reached from t: it is t itself or reached by an edge; 1 does not count
abbrev pub Inside : {E : Type 0} → Tree E → Tree E → Type 0
Inside s leaf = ⊥
Inside s (node x p m q n) = (s ≡ node x p m q n) ⊎ (Inside s m ⊎ Inside s n)

-- ts are the entries reached from t, each once
pub record Diagram {E : Type 0} (t : Tree E) (ts : List (Tree E)) : Type 0 where
  pub distinct : Distinct ts
  pub inside : (s : Tree E) → Among s ts → Inside s t
  pub all : (s : Tree E) → Inside s t → Among s ts

-- s is in the diagram of f
pub record InDiagram {E : Type 0} (M : Model E) (k : ℕ) (f : Polynomial E k) (s : Tree E) : Type 0 where
  pub w : E
  pub t : Tree E
  pub reduced : Reduced M k t
  pub lawful : Lawful M w t
  pub means : value M.ring k w t ≡ f
  pub reached : Inside s t
