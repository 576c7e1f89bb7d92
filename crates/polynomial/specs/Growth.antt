-- Growing a list of entries by a set of required entries, and not having room for it.
use Rattle.std.specs.Prelude.{◌≡◌, ℕ, ◌+◌, ◌<◌, ◌≤◌, Bool, true, false, ◌⊎◌, List, ◌++◌, length}
use Rattle.polynomial.specs.Entries.{Entry, trees}
use Rattle.polynomial.specs.Lists.{Among, Distinct}
use Rattle.polynomial.specs.Trees.{Tree}

-- the union of two sets
abbrev pub Either : {A : Type 0} → (A → Type 0) → (A → Type 0) → A → Type 0
Either S T a = S a ⊎ T a

-- entries are only appended, no two are alike, and each new one is required
pub record Within {E : Type 0} (es es' : List (Entry E)) (S : Tree E → Type 0) : Type 0 where
  pub new : List (Entry E)
  pub appended : es' ≡ es ++ new
  pub distinct : Distinct (trees es')
  pub only : (t : Tree E) → Among t (trees es') → Among t (trees es) ⊎ S t

-- and all that are required are there: exactly the missing ones were added
pub record Grown {E : Type 0} (es es' : List (Entry E)) (S : Tree E → Type 0) : Type 0 where
  pub within : Within es es' S
  pub all : (t : Tree E) → S t → Among t (trees es')

-- ts are required and missing, each once
pub record Lacks {E : Type 0} (es : List (Entry E)) (S : Tree E → Type 0) (ts : List (Tree E)) : Type 0 where
  pub distinct : Distinct ts
  pub wanted : (t : Tree E) → Among t ts → S t
  pub absent : (t : Tree E) → Among t ts → Among t (trees es) → ⊥

-- no room: the entries that are present and those that are missing exceed the capacity
pub record Overfull {E : Type 0} (es : List (Entry E)) (capacity : ℕ) (S : Tree E → Type 0) : Type 0 where
  pub missing : List (Tree E)
  pub lacks : Lacks es S missing
  pub exceeds : capacity < length es + length missing

-- how an attempt ends: grown within the capacity, or stopped for want of room with some of the missing ones added
abbrev pub Outcome : {E : Type 0} → ℕ → (es es' : List (Entry E)) → (Tree E → Type 0) → Bool → Type 0
Outcome capacity es es' S true = Grown es es' S × (length es' ≤ capacity)
Outcome capacity es es' S false = Within es es' S × Overfull es capacity S
