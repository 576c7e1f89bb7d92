-- A reference in two parts.
use Rattle.std.specs.Prelude.{◌≡◌, ℕ, ◌+◌, ◌-◌, ◌<◌, ◌≤◌, ◌⊎◌, max, List, slice_index_or}
use Rattle.domain.specs.Model.{Model}
use Rattle.polynomial.specs.Needs.{Splits}
use Rattle.polynomial.specs.Trees.{Tree, leaf, node, tree_degree}
use Rattle.diagram.specs.Tables.{tree, of, mass_of, LawfulIn, Kept}
use Rattle.diagram.specs.declared.entry.Entry.{Entry}
use Rattle.diagram.specs.declared.entry.Reference.{Reference}

-- the entry with the number n has the letter x
abbrev pub Has : List Entry → ℕ → ℕ → Type 0
Has es n x = (1 ≤ n) × ((d : Entry) → (slice_index_or es (n - 1) d).letter ≡ x)

-- no letter of the entry with the number n is before x
abbrev pub NoneBefore : List Entry → ℕ → ℕ → Type 0
NoneBefore es n x = (y : ℕ) → Has es n y → x ≤ y

-- x is the higher of the letters of two numbers, of which one has a letter
pub record Top (es : List Entry) (m n x : ℕ) : Type 0 where
  pub one : Has es m x ⊎ Has es n x
  pub first : NoneBefore es m x
  pub second : NoneBefore es n x

-- how deep a recursion over parts can go from an entry: its degree and the letters from its own on, together; it ends at 1
abbrev pub nesting : {E : Type 0} → ℕ → Tree E → ℕ
nesting k leaf = 0
nesting k (node x p m q n) = tree_degree (node x p m q n) + (k - x)

-- f can be split at the letter x
pub record Cuts {E : Type 0} (M : Model E) (k : ℕ) (es : List Entry) (f : Reference) (x : ℕ) : Type 0 where
  pub kept : Kept M k es
  pub lawful : LawfulIn M es f
  pub known : x < k
  pub leads : NoneBefore es f.entry x

-- f is p plus x times q, with no letter up to x in p and none before x in q; the entry of p has no higher degree than that
-- of f, and that of q has a lower one, or is 1; and where f has the letter x, both nest less deep than f
pub record Parted {E : Type 0} (M : Model E) (k : ℕ) (es : List Entry) (f : Reference) (x : ℕ) (p q : Reference) : Type 0 where
  pub left : LawfulIn M es p
  pub right : LawfulIn M es q
  pub splits : Splits M.ring k x (of M k es f) (of M k es p) (of M k es q)
  pub weighs : mass_of M es f ≡ mass_of M es p + mass_of M es q
  pub below : tree_degree (tree M es p.entry) ≤ tree_degree (tree M es f.entry)
  pub degree : 1 + tree_degree (tree M es q.entry) ≤ max 1 (tree_degree (tree M es f.entry))
  pub nests : Has es f.entry x
      → (nesting k (tree M es p.entry) < nesting k (tree M es f.entry)) × (nesting k (tree M es q.entry) < nesting k (tree M es f.entry))

-- the parts lead no higher than f, and lower where f has the letter x
pub record Falling (es : List Entry) (f : Reference) (x : ℕ) (p q : Reference) : Type 0 where
  pub left : p.entry ≤ f.entry
  pub right : q.entry ≤ f.entry
  pub lower : Has es f.entry x → (p.entry < f.entry) × (q.entry < f.entry)
