use Rattle.std.proofs.Common.{◌≡◌, ◌+◌, length}
use Rattle.diagram.specs.Stores.{items}
use Rattle.diagram.proofs.Grading.{Graded}
use Rattle.diagram.proofs.table.Table.degree.Given as goal

abbrev pub invariant-loop-e : goal.invariant-loop-e
invariant-loop-e g l =
    (length l.degrees.items ≡ l.e-index + 1) × Graded (g.D.Domain.model l.self.domain) (items l.self.store) l.degrees.items l.e-index
