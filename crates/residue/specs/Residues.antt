-- The integers modulo the prime 8,191.
use Rattle.std.specs.Prelude.{ℕ, suc, ◌+◌, ◌-◌, ◌*◌, ◌%◌, ◌^◌, pos, unsigned_abs}
use Prim.Native.Nat.{Fin}
use Rattle.domain.specs.Fields.{Field}
use Rattle.domain.specs.Numbers.{number, below}
use Rattle.domain.specs.Remainders.{remainder, decoded, own_code}
use Rattle.domain.specs.Ring.{Ring}

-- the integers modulo suc p
abbrev pub modulo : (p : ℕ) → Ring (Fin (suc p))
modulo p = record {
  zero = remainder p 0;
  one = remainder p 1;
  add = λ a b. remainder p (a.0 + b.0);
  mul = λ a b. remainder p (a.0 * b.0);
  neg = λ a. remainder p (suc p - a.0);
}

-- the inverse of a is its power 8,189
abbrev pub residues : Field (Fin 8191)
residues = record {
  ring = modulo 8190;
  coded = below 8191;
  value = decoded 8190;
  code = own_code 8190;
  inverse = λ a. number (pos (unsigned_abs a.int ^ 8189 % 8191));
}
