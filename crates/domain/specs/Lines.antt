-- Refusals as programs print them.
use Rattle.std.specs.Prelude.{ℕ, List, ◌++◌, Some, None, Option, codes, decimal}
use Rattle.domain.specs.declared.fault.Fault.{Fault}
use Rattle.domain.specs.declared.fault.Fault.TheVariants.{NoFormula}
use Rattle.domain.specs.Faults.{numbered}

abbrev numbered_line : Option ℕ → List ℕ
numbered_line (Some n) = codes "refused " ++ decimal n
numbered_line None = codes "out of memory"

-- the number, and of a text that is no formula the place
abbrev pub refusal : Fault → List ℕ
refusal (NoFormula place) = numbered_line (numbered (NoFormula place)) ++ (codes " " ++ decimal place)
refusal f = numbered_line (numbered f)
