use Rattle.diagram.specs.Terms.{model_of, entry_mass}
use Rattle.diagram.proofs.LawfulLaws.{within_tested}
use Rattle.diagram.proofs.table.Table.is_within.Goals as goal

pub returns : goal.returns
returns g c =
    let b = c.args.self.now in
    within_tested (model_of b) (g.met.D.Domain.sound b.domain) c.args.size (entry_mass b c.args.n) c.mass.result c.saturating_mul.result c.limit.result c.mass.ensures c.saturating_mul.ensures c.limit.ensures
