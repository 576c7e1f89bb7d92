use Rattle.std.proofs.Common.{◌≡◌, ◌+◌, ◌-◌, ◌≤◌, length}
use Rattle.diagram.specs.Terms.{Measured}
use Rattle.diagram.proofs.length.Table+D+Closed.line_length.Given as goal

abbrev pub invariant-loop-n : goal.invariant-loop-n
invariant-loop-n g l = (length l.lengths.items ≡ l.n) × (1 ≤ l.n) × (l.n ≤ l.f.entry + 1) × Measured l.self l.lengths.items (l.n - 1)
