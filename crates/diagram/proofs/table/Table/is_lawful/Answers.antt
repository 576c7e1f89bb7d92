use Rattle.std.proofs.Common.{sym, ◌∙◌}
use Rattle.diagram.specs.Terms.{model_of}
use Rattle.diagram.proofs.LawfulLaws.{zero_tested}
use Rattle.diagram.proofs.table.Table.is_lawful.Goals as goal

pub returns-then-is_zero : goal.returns-then-is_zero
returns-then-is_zero g c =
    let b = c.args.self.now in
    zero_tested (model_of b) (g.met.D.Domain.sound b.domain) _ c.args.f b.store.falling (sym c.is_zero.ensures ∙ c.if-is_zero.true)
