use Rattle.diagram.proofs.Parting.{top_min}
use Rattle.diagram.proofs.sum.Table+D+Open.top.Goals as goal

pub returns-clause-top : goal.returns-clause-top
returns-clause-top g c = top_min _ c.args.m c.args.n c.index-2.result.now c.index-3.result.now _ c.if-m-eq0.false c.if-n-eq0.false c.requires.first c.requires.second c.index-2.ensures c.index-3.ensures c.min.ensures
