use Rattle.diagram.specs.Terms.{model_of, letter_count}
use Rattle.diagram.proofs.CountingLaws.{least_count}
use Rattle.diagram.proofs.table.Table.count.Goals as goal

pub returns-clause-least : goal.returns-clause-least
returns-clause-least g c = λ K.
    let b = c.args.self.now in
    least_count (model_of b) _ b.store.falling (g.met.D.Domain.sound b.domain) (letter_count b) K c.args.f c.in_ok-lawful.ensures _ c.reached.ensures
