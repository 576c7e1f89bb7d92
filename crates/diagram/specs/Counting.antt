-- The entries that are reached from a number.
use Rattle.std.specs.Prelude.{◌≡◌, ℕ, zero, suc, ◌<◌, ◌≤◌, Bool, true, false, cond, ◌↔◌, List, [], ◌∷◌, length, get_or, slice_index_or}
use Rattle.domain.specs.Model.{Model}
use Rattle.polynomial.specs.Diagrams.{Diagram}
use Rattle.polynomial.specs.Entries.{Entry as Node}
use Rattle.polynomial.specs.Lists.{Among, Distinct}
use Rattle.polynomial.specs.Rivals.{Rival}
use Rattle.polynomial.specs.Trees.{Tree}
use Rattle.diagram.specs.Tables.{tree, of}
use Rattle.diagram.specs.declared.entry.Entry.{Entry}
use Rattle.diagram.specs.declared.entry.Reference.{Reference}

-- the number itself, and from each entry reached those at both edges
pub data Reached (es : List Entry) (n : ℕ) : ℕ → Type 0 where
  here : Reached es n n
  low : (i : ℕ) (e : Entry) → i < length es → slice_index_or es i e ≡ e → Reached es n (suc i) → Reached es n e.additive.target
  high : (i : ℕ) (e : Entry) → i < length es → slice_index_or es i e ≡ e → Reached es n (suc i) → Reached es n e.multiplicative.target

-- c entries are reached, number 0 not counted
pub record Counted (es : List Entry) (n c : ℕ) : Type 0 where
  pub numbers : List ℕ
  pub distinct : Distinct numbers
  pub all : (j : ℕ) → Among j numbers ↔ ((1 ≤ j) × Reached es n j)
  pub count : c ≡ length numbers

-- c is the number of entries of the diagram, and no diagram for the polynomial has fewer
pub record LeastCount {E : Type 0} (M : Model E) (k : ℕ) (es : List Entry) (f : Reference) (c : ℕ) : Type 0 where
  pub entries : List (Tree E)
  pub diagram : Diagram (tree M es f.entry) entries
  pub count : c ≡ length entries
  pub least : (rivals : List (Node E)) → Rival M.ring k rivals (of M k es f) → c ≤ length rivals

-- the numbers from 1 to n that are marked
abbrev pub marked : List Bool → ℕ → List ℕ
marked ms zero = []
marked ms (suc i) = cond (slice_index_or ms (suc i) false) (suc i ∷ marked ms i) (marked ms i)

abbrev pub Mark : List Bool → ℕ → Type 0
Mark ms j = slice_index_or ms j false ≡ true

-- both edges of the entry with the number j + 1 lead to marked numbers
abbrev pub EdgesMarked : List Entry → List Bool → ℕ → Type 0
EdgesMarked es ms j = (d : Entry) → Mark ms (get_or es j d).additive.target × Mark ms (get_or es j d).multiplicative.target

-- what is reached from n is marked, once the numbers above i have been looked at
pub record Marking (es : List Entry) (n i : ℕ) (ms : List Bool) : Type 0 where
  pub long : length ms ≡ 1025
  pub root : Mark ms n
  pub sound : (j : ℕ) → Mark ms j → Reached es n j
  pub closed : (j : ℕ) → i ≤ j → j < n → Mark ms (suc j) → EdgesMarked es ms j
