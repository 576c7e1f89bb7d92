use Rattle.diagram.specs.Stores.{items}
use Rattle.diagram.proofs.Weighing.{weighed_step}
use Rattle.diagram.proofs.table.Table.mass.Goals as goal

pub loop-e-preserved : goal.loop-e-preserved
loop-e-preserved g c =
    let t = c.args.self.now in
    weighed_step (g.D.Domain.model t.domain) (items t.store) c.deref.result.now c.args.n c.loop-e.e-index _ c.loop-e.masses.items c.as_slice.result.now c.push-in-loop-e.new.self.items c.weigh-mass.result
    t.store.falling t.coded c.deref.ensures.value c.loop-e-test.true c.loop-e.invariant.0 c.loop-e.invariant.1 c.as_slice.ensures.value c.weigh-mass.ensures c.push-in-loop-e.ensures.items
