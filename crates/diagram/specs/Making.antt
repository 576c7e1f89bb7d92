-- Making a table.
use Rattle.std.specs.Prelude.{ℕ, ◌≤◌, List, length}
use Rattle.domain.specs.declared.fault.Fault.{Fault}
use Rattle.domain.specs.declared.fault.Fault.TheVariants.{BadOrder, BadCapacity}
use Rattle.diagram.specs.Checks.{Else, Never}
use Rattle.diagram.specs.Orders.{Proper}

-- 1 to 1,024 entries
abbrev pub Capacity : ℕ → Type 0
Capacity n = (1 ≤ n) × (n ≤ 1024)

-- why making is refused: 1, then 2
abbrev pub BadMaking : List ℕ → ℕ → Fault → Type 0
BadMaking ls capacity = Else (Proper ls) (BadOrder (length ls)) (Else (Capacity capacity) (BadCapacity capacity) Never)
