use Rattle.std.proofs.Common.{rules}
use lib.Bits.{xor_lt}
use Rattle.byte.proofs.BytesArithmetic.sum.Goals as goal

-- the sum is below 256 too, so wrapping leaves it as it is
pub returns : goal.returns
returns c = let small = xor_lt 8 c.in_ok-x.x c.in_ok-y.y (search rules) (search rules) in search rules
