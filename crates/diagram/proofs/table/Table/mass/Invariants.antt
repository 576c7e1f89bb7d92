use Rattle.std.proofs.Common.{◌≡◌, ◌+◌, length}
use Rattle.diagram.specs.Stores.{items}
use Rattle.diagram.proofs.Weighing.{Weighed}
use Rattle.diagram.proofs.table.Table.mass.Given as goal

abbrev pub invariant-loop-e : goal.invariant-loop-e
invariant-loop-e g l =
    (length l.masses.items ≡ l.e-index + 1) × Weighed (g.D.Domain.model l.self.domain) (items l.self.store) l.masses.items l.e-index
