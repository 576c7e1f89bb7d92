use Rattle.std.proofs.Common.{◌+◌}
use Rattle.diagram.proofs.product.Table+D+Open.+multiply.Given as goal

abbrev pub decreases-multiply : goal.decreases-multiply
decreases-multiply g l = l.f.entry + l.g.entry
