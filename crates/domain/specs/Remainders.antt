-- The numbers below a bound: remainders, each its own code.
use Rattle.std.specs.Prelude.{ℕ, suc, ◌%◌, pos, unsigned_abs}
use Prim.Native.Nat.{Fin}
use Rattle.std.proofs.Common.{mod-lt}
use Rattle.std.proofs.Math.Nat.{zero-lt-suc}
use Rattle.domain.specs.declared.number.Number.{Number}
use Rattle.domain.specs.Numbers.{number}

-- the remainder of n modulo suc p
abbrev pub remainder : (p : ℕ) → ℕ → Fin (suc p)
remainder p n = (n % suc p, mod-lt n (zero-lt-suc p))

abbrev pub decoded : (p : ℕ) → Number → Fin (suc p)
decoded p a = remainder p (unsigned_abs a.int)

abbrev pub own_code : (p : ℕ) → Fin (suc p) → Number
own_code p x = number (pos x.0)
