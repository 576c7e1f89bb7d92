-- Lists by their places.
use Rattle.std.specs.Prelude.{◌≡◌, ℕ, ◌<◌, ◌≤◌, List, length, Some, None, Option, ◌≢◌, slice_index_or}
use Rattle.diagram.specs.declared.entry.Entry.{Entry}

-- P holds of each place and what stands there
abbrev pub All : {X : Type 0} → (ℕ → X → Type 0) → List X → Type 0
All {X} P xs = (k : ℕ) (d : X) → k < length xs → P k (slice_index_or xs k d)

-- none of the first n items is x
abbrev pub Absent : {X : Type 0} → List X → X → ℕ → Type 0
Absent {X} xs x n = (k : ℕ) (d : X) → k < n → k < length xs → slice_index_or xs k d ≢ x

-- the first place that holds x, or that none does
abbrev pub Located : {X : Type 0} → List X → X → Option ℕ → Type 0
Located xs x None = Absent xs x (length xs)
Located {X} xs x (Some i) = (i < length xs) × ((d : X) → slice_index_or xs i d ≡ x) × Absent xs x i

-- both edges of the entry at place k, whose number is k + 1, lead to numbers up to k
abbrev pub Lower : ℕ → Entry → Type 0
Lower k e = (e.additive.target ≤ k) × (e.multiplicative.target ≤ k)

abbrev pub Falls : List Entry → Type 0
Falls es = All Lower es

-- the letter of an entry is one of the first n
abbrev pub Lettered : ℕ → ℕ → Entry → Type 0
Lettered n k e = e.letter < n
