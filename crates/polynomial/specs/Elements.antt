-- The test for zero and factor, on elements in place of codes.
use Rattle.std.specs.Prelude.{Bool, false, cond, ◌==◌}
use Rattle.domain.specs.Model.{Model}
use Rattle.domain.specs.Numbers.{is_zero as zero_code}

-- whether x is zero: its size is 0, so that it has a code, and its code is 0
unfoldable pub is_zero : {E : Type 0} → Model E → E → Bool
is_zero M x = cond (M.size x == 0) (zero_code (M.code x)) false

-- the three elements that factor takes out of a and b; of elements without a code it says nothing
unfoldable pub factor : {E : Type 0} → Model E → E → E → E × E × E
factor M a b =
    (M.value (M.factor (M.code a) (M.code b)).0, M.value (M.factor (M.code a) (M.code b)).1, M.value (M.factor (M.code a) (M.code b)).2)
