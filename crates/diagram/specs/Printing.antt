-- Printing a line into a buffer.
use Rattle.std.specs.Prelude.{◌≡◌, ℕ, ◌+◌, List, ◌++◌, length, take, drop, min}

-- what a buffer holds once the text s is put at a place
abbrev pub put_at : List ℕ → ℕ → List ℕ → List ℕ
put_at b at s = take at b ++ (s ++ drop (at + length s) b)

-- the text s was put into b at a place, which made it c; r is the place behind it
pub record Puts (b c : List ℕ) (at : ℕ) (s : List ℕ) (r : ℕ) : Type 0 where
  pub place : r ≡ at + length s
  pub is : c ≡ put_at b at s

-- a length that stops at the end of its range
abbrev pub clipped : ℕ → ℕ
clipped n = min n 18446744073709551615
