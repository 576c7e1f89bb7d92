-- Whole numbers as callers hold them.
use Rattle.std.specs.Prelude.{ℕ, Bool, false, cond, ℤ, pos, negsuc, Ok, Err, Result, ◌==◌, nat_le, nat_lt, unsigned_abs}
use Rattle.domain.specs.declared.fault.Fault.{Fault}
use Rattle.domain.specs.declared.fault.Fault.TheVariants.{NoCode}
use Rattle.domain.specs.declared.number.Number.{Number}

abbrev pub number : ℤ → Number
number z = record { int = z }

abbrev zero_int : ℤ → Bool
zero_int (pos n) = n == 0
zero_int (negsuc n) = false

abbrev pub is_zero : Number → Bool
is_zero a = zero_int a.int

abbrev below_int : ℕ → ℤ → Bool
below_int m (pos n) = nat_lt n m
below_int m (negsuc n) = false

-- one of the numbers 0 to m - 1
abbrev pub below : ℕ → Number → Bool
below m a = below_int m a.int

-- the refusal of a number that is no code, or is zero where it divides
abbrev pub no_code : Number → Fault
no_code a = NoCode a.int

abbrev pub held : ℕ → Number → Result ℕ Fault
held m a = cond (below m a) (Ok (unsigned_abs a.int)) (Err (no_code a))

-- a natural number, or its refusal where it is too large to be a code of any domain
abbrev pub natural : ℕ → Result Number Fault
natural n = cond (nat_le n 2147483647) (Ok (number (pos n))) (Err (NoCode (pos n)))
