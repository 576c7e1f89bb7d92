use Rattle.std.proofs.Common.{◌≤◌}
use Rattle.diagram.specs.Counting.{Marking}
use Rattle.diagram.specs.Stores.{items}
use Rattle.diagram.proofs.store.Store.marks.Given as goal

abbrev pub invariant-loop-i : goal.invariant-loop-i
invariant-loop-i l = (l.i ≤ l.n) × Marking (items l.self) l.n l.i l.marks

abbrev pub decreases-loop-i : goal.decreases-loop-i
decreases-loop-i l = l.i
