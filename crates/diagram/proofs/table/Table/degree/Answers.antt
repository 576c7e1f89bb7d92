use Rattle.std.proofs.Common.{ap, length, slice_index_or, arith, length-take-le}
use Rattle.diagram.specs.Stores.{items}
use Rattle.diagram.proofs.Grading.{degree_low, high_fits, graded_step}
use Rattle.diagram.proofs.table.Table.degree.Goals as goal

pub overflow_add-known : goal.overflow_add-known
overflow_add-known g c =
    let t = c.args.self.now in
    high_fits (g.D.Domain.model t.domain) (items t.store) c.deref.result.now c.args.n c.loop-e.e-index _ c.loop-e.degrees.items c.as_slice-known.result.now t.store.falling c.deref.ensures.value c.loop-e-test.true c.loop-e.invariant.0 c.loop-e.invariant.1 c.as_slice-known.ensures.value
    (omega (arith, t.store.few, t.store.small))

pub loop-e-preserved : goal.loop-e-preserved
loop-e-preserved g c =
    let t = c.args.self.now in
    graded_step (g.D.Domain.model t.domain) (items t.store) c.deref.result.now c.args.n c.loop-e.e-index _ c.loop-e.degrees.items c.as_slice-known.result.now t.store.falling c.deref.ensures.value c.loop-e-test.true c.loop-e.invariant.0 c.loop-e.invariant.1 c.as_slice-known.ensures.value
    c.max-degree.result c.push-in-loop-e.new.self.items c.max-degree.ensures c.push-in-loop-e.ensures.items

pub returns-clause-low : goal.returns-clause-low
returns-clause-low g c =
    let t = c.args.self.now in
    let xs = c.deref.result.now in
    let long = length-take-le c.args.n xs (omega (arith, c.requires, ap length c.deref.ensures.value)) in
    let end = c.loop-e.invariant.1 c.args.n (omega (arith, c.loop-e-test.false, long)) in
    omega (arith, ap (λ l. slice_index_or l c.args.n 0) c.as_slice.ensures.value, end, degree_low (g.D.Domain.model t.domain) (items t.store) t.store.falling c.args.n c.requires)
