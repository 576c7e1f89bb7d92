use Rattle.std.proofs.Common.{◌+◌}
use Rattle.diagram.proofs.sum.Table+D+Open.+add.Given as goal

abbrev pub decreases-add : goal.decreases-add
decreases-add g l = l.f.entry + l.g.entry
