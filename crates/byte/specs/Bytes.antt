-- The field of 256 bytes (FIPS 197, section 4.2). A byte is a polynomial in x whose coefficients are its bits: 131 is
-- x^7 + x + 1. The sum is the exclusive-or, and the product is taken modulo x^8 + x^4 + x^3 + x + 1, which is 283.
use Rattle.std.specs.Prelude.{◌≡◌, ℕ, zero, suc, ◌*◌, ◌/◌, ◌%◌, ◌<◌, cond, ◌≢◌, pos, ◌==◌, bit_xor, nat_lt, unsigned_abs}
use Prim.Native.Nat.{Fin}
use Rattle.domain.specs.Fields.{Field}
use Rattle.domain.specs.Numbers.{number, below}
use Rattle.domain.specs.Remainders.{remainder, decoded, own_code}
use Rattle.domain.specs.Ring.{Ring}

-- a times x
unfoldable pub shifted : ℕ → ℕ
shifted a = cond (nat_lt a 128) (2 * a) (bit_xor (2 * a) 283)

-- the sum of b, b times x, b times x^2 .. that the n lowest bits of a select
unfoldable pub selected : ℕ → ℕ → ℕ → ℕ
selected zero a b = 0
selected (suc n) a b = bit_xor (cond (a % 2 == 1) b 0) (selected n (a / 2) (shifted b))

-- a times b
unfoldable pub times : ℕ → ℕ → ℕ
times a b = selected 8 a b

-- a to the power n
unfoldable pub power : ℕ → ℕ → ℕ
power a zero = 1
power a (suc n) = times a (power a n)

-- 3 to the power n: every byte but 0 is one of these
abbrev pub three_to : ℕ → ℕ
three_to n = power 3 n

-- the inverse of a, if a is not 0: the power 255 of such a byte is 1
abbrev pub inverse_byte : ℕ → ℕ
inverse_byte a = power a 254

-- n is the exponent of a, or 0 if a is 0
pub record Logarithm (a n : ℕ) : Type 0 where
  pub small : n < 255
  pub of_zero : a ≡ 0 → n ≡ 0
  pub of_other : a ≢ 0 → three_to n ≡ a

-- each byte is its own opposite
abbrev pub byte_ring : Ring (Fin 256)
byte_ring = record {
  zero = remainder 255 0;
  one = remainder 255 1;
  add = λ a b. remainder 255 (bit_xor a.0 b.0);
  mul = λ a b. remainder 255 (times a.0 b.0);
  neg = λ a. a;
}

abbrev pub bytes : Field (Fin 256)
bytes = record {
  ring = byte_ring;
  coded = below 256;
  value = decoded 255;
  code = own_code 255;
  inverse = λ a. number (pos (inverse_byte (unsigned_abs a.int)));
}
