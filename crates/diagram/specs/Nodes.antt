-- Growing a table by one entry.
use Rattle.std.specs.Prelude.{◌≡◌, ℕ, ◌+◌, ◌<◌, ◌≤◌, ◌≢◌, ◌⊎◌, List, [], ◌∷◌, ◌++◌, length, Ok, Err, Result, slice_index_or}
use Rattle.domain.specs.Model.{Model}
use Rattle.domain.specs.declared.fault.Fault.{Fault}
use Rattle.domain.specs.declared.fault.Fault.TheVariants.{Full}
use Rattle.polynomial.specs.Growth.{Grown, Overfull}
use Rattle.polynomial.specs.Polynomials.{Polynomial}
use Rattle.polynomial.specs.Trees.{Tree, leaf, After, From, make}
use Rattle.diagram.specs.Answering.{StandsFor}
use Rattle.diagram.specs.Places.{Absent}
use Rattle.diagram.specs.Tables.{nodes, tree, mass_of, LawfulIn, Kept, Stays}
use Rattle.diagram.specs.declared.entry.Entry.{Entry}
use Rattle.diagram.specs.declared.entry.Reference.{Reference}

-- entries were only appended
pub record Moved (es fs : List Entry) : Type 0 where
  pub more : List Entry
  pub is : fs ≡ es ++ more

-- e has the number n of the entries fs, which are es, or es and e
pub record Numbered (es fs : List Entry) (e : Entry) (n : ℕ) : Type 0 where
  pub place : ℕ
  pub next : n ≡ place + 1
  pub inside : place < length fs
  pub here : (d : Entry) → slice_index_or fs place d ≡ e
  pub grown : (fs ≡ es) ⊎ ((fs ≡ es ++ e ∷ []) × Absent es e (length es))

-- the number of e, which was appended if it was missing; or there was no room
abbrev pub Interned : List Entry → List Entry → ℕ → Entry → Result ℕ Fault → Type 0
Interned es fs capacity e (Ok n) = Numbered es fs e n
Interned es fs capacity e (Err f) = (f ≡ Full capacity) × (length es < capacity → ⊥) × Absent es e (length es)

-- the sum of p and the letter x times q can be one entry
pub record Joins {E : Type 0} (M : Model E) (k : ℕ) (es : List Entry) (x : ℕ) (p q : Reference) : Type 0 where
  pub kept : Kept M k es
  pub left : LawfulIn M es p
  pub right : LawfulIn M es q
  pub known : x < k
  pub after : After x (tree M es p.entry)
  pub from : From x (tree M es q.entry)
  pub light : mass_of M es p + mass_of M es q ≤ M.limit

-- its weight and its entry
abbrev pub joint : {E : Type 0} → Model E → List Entry → ℕ → Reference → Reference → E × Tree E
joint M es x p q = make M x (M.value p.weight) (tree M es p.entry) (M.value q.weight) (tree M es q.entry)

-- the one entry that it wants, unless it is 1
abbrev pub Wanted : {E : Type 0} → Model E → List Entry → ℕ → Reference → Reference → Tree E → Type 0
Wanted M es x p q s = (s ≢ leaf) × (s ≡ (joint M es x p q).1)

-- r is its reference, and the table has grown by what it wants
pub record Joined {E : Type 0} (M : Model E) (k capacity : ℕ) (es fs : List Entry) (x : ℕ) (p q r : Reference) : Type 0 where
  pub kept : Kept M k fs
  pub lawful : LawfulIn M fs r
  pub grown : Grown (nodes M es) (nodes M fs) (Wanted M es x p q)
  pub room : length fs ≤ capacity
  pub weight_is : M.value r.weight ≡ (joint M es x p q).0
  pub tree_is : tree M fs r.entry ≡ (joint M es x p q).1

-- an accepted call: r is the lawful reference of h, and the table has grown by exactly the missing ones of S
pub record Granted {E : Type 0} (M : Model E) (k capacity : ℕ) (es fs : List Entry) (S : Tree E → Type 0) (h : Polynomial E k) (r : Reference) : Type 0 where
  pub kept : Kept M k fs
  pub stands : StandsFor M k fs h r
  pub grown : Grown (nodes M es) (nodes M fs) S
  pub room : length fs ≤ capacity
  pub stays : Stays M k es fs

-- no room for S
pub record Denied {E : Type 0} (M : Model E) (capacity : ℕ) (es : List Entry) (S : Tree E → Type 0) (e : Fault) : Type 0 where
  pub full : e ≡ Full capacity
  pub overfull : Overfull (nodes M es) capacity S
