use Rattle.std.proofs.Common.{◌+◌, ◌*◌}
use Rattle.diagram.proofs.print.Table+D+Closed.+put.Given as goal

-- an entry's edges lead to lower numbers
abbrev pub decreases-put_reference : goal.decreases-put_reference
decreases-put_reference g l = 3 * l.f.entry + 1

abbrev pub decreases-put_entry : goal.decreases-put_entry
decreases-put_entry g l = 3 * l.n

abbrev pub decreases-put_times : goal.decreases-put_times
decreases-put_times g l = 3 * l.edge.target + 2

abbrev pub decreases-put_plus : goal.decreases-put_plus
decreases-put_plus g l = 3 * l.edge.target + 2
