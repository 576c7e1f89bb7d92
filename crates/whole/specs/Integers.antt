-- The integers, each its own code where it is small enough.
use Rattle.std.specs.Prelude.{ℕ, Bool, true, false, ℤ, pos, negsuc, ◌+ℤ◌, ◌*ℤ◌, neg_ℤ, Some, None, Err, Option, Result, int_div, nat_le, unsigned_abs}
use Rattle.domain.specs.declared.fault.Fault.{Fault}
use Rattle.domain.specs.declared.fault.Fault.TheVariants.{OverLimit}
use Rattle.domain.specs.declared.number.Number.{Number}
use Rattle.domain.specs.Answers.{encoded}
use Rattle.whole.specs.Divisors.{gcd}
use Rattle.domain.specs.Model.{Model}
use Rattle.domain.specs.Numbers.{number}
use Rattle.domain.specs.Ring.{Ring}

abbrev pub integer_ring : Ring ℤ
integer_ring = record { zero = pos 0; one = pos 1; add = ◌+ℤ◌; mul = ◌*ℤ◌; neg = neg_ℤ }

abbrev pub negative : ℤ → Bool
negative (pos n) = false
negative (negsuc n) = true

-- n, or its opposite
abbrev pub signed : Bool → ℕ → ℤ
signed true n = neg_ℤ (pos n)
signed false n = pos n

-- the greatest common divisor, with the sign of b
abbrev pub common : ℤ → ℤ → ℤ
common a b = signed (negative b) (gcd (unsigned_abs a) (unsigned_abs b))

-- what both have in common, and what is left of each
abbrev pub split : ℤ → ℤ → Number × Number × Number
split a b = (number (common a b), number (int_div a (common a b)), number (int_div b (common a b)))

abbrev pub integers : Model ℤ
integers = record {
  ring = integer_ring;
  size = unsigned_abs;
  limit = 2147483647;
  coded = λ a. nat_le (unsigned_abs a.int) 2147483647;
  value = λ a. a.int;
  code = number;
  factor = λ a b. split a.int b.int;
}

-- the answer for an exact result, given where it fits 32 bits
abbrev pub fitted : Option ℤ → Result Number Fault
fitted None = Err (OverLimit 2147483647)
fitted (Some z) = encoded integers z
