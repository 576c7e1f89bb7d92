use Rattle.std.proofs.Common.{arith}
use Rattle.diagram.specs.Terms.{entries_of}
use Rattle.diagram.proofs.Multiplying.{ordered_first, ordered_second}
use Rattle.diagram.proofs.product.Table+D+Open.order.Goals as goal

pub returns-then-y-x-clause-ordered : goal.returns-then-y-x-clause-ordered
returns-then-y-x-clause-ordered g c =
    ordered_second (entries_of c.args.self.now) c.args.f c.args.g c.index.result.now c.index-2.result.now c.requires.first c.requires.second c.index.ensures c.index-2.ensures c.if-y-x.true

pub returns-else-y-x-clause-ordered : goal.returns-else-y-x-clause-ordered
returns-else-y-x-clause-ordered g c =
    ordered_first (entries_of c.args.self.now) c.args.f c.args.g c.index.result.now c.index-2.result.now c.requires.first c.requires.second c.index.ensures c.index-2.ensures (omega (arith, c.if-y-x.false))
