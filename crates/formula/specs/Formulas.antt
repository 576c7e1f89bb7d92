-- Formulas as trees.
use Rattle.std.specs.Prelude.{ℕ}

pub data Formula : Type 0 where
  -- a whole number
  constant : ℕ → Formula
  -- one of the letters, by its place: 0 for a, 15 for p
  letter : ℕ → Formula
  sum : Formula → Formula → Formula
  -- the first without the second
  difference : Formula → Formula → Formula
  product : Formula → Formula → Formula
  negation : Formula → Formula
  -- the formula as a factor, this many times
  power : Formula → ℕ → Formula
