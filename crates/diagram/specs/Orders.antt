-- Letter orders.
use Rattle.std.specs.Prelude.{ℕ, ◌<◌, ◌≤◌, List, length, ◌≢◌, slice_index}

-- a letter from a to p
abbrev pub Letter : ℕ → Type 0
Letter x = (97 ≤ x) × (x ≤ 112)

-- the first n letters are from a to p
abbrev pub Ranged : List ℕ → ℕ → Type 0
Ranged ls n = (i : ℕ) → i < n → Letter (slice_index ls i)

-- no two of the first n letters are the same
abbrev pub Apart : List ℕ → ℕ → Type 0
Apart ls n = (i j : ℕ) → (i < j) × (j < n) → slice_index ls i ≢ slice_index ls j

-- an order: 1 to 16 different letters from a to p
pub record Proper (ls : List ℕ) : Type 0 where
  pub some : 1 ≤ length ls
  pub few : length ls ≤ 16
  pub ranged : Ranged ls (length ls)
  pub apart : Apart ls (length ls)
