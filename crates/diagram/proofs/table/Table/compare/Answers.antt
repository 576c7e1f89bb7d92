use Rattle.std.proofs.Common.{sym, ◌∙◌}
use mathlib.Core.Bool.{false≢true}
use Rattle.diagram.specs.Equality.{decides_reference}
use Rattle.diagram.specs.Terms.{model_of, letter_count}
use Rattle.diagram.proofs.Comparing.{agree_same}
use Rattle.diagram.proofs.table.Table.compare.Goals as goal

pub returns-else-eq-clause-canonical : goal.returns-else-eq-clause-canonical
returns-else-eq-clause-canonical g c = λ K a.
    let b = c.args.self.now in
    let same = agree_same (model_of b) (g.met.D.Domain.sound b.domain) (letter_count b) _ K b.store.falling c.args.f c.args.g c.in_ok-lawful.ensures c.in_ok-lawful-2.ensures a in
    false≢true (sym c.if-eq.false ∙ (c.eq.ensures ∙ (decides_reference c.args.f c.args.g).1 same))
