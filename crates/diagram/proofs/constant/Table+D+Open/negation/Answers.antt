use Rattle.diagram.specs.Terms.{model_of, letter_count}
use Rattle.diagram.proofs.Negating.{negated_ok, negated_value, negation_stands}
use Rattle.diagram.proofs.constant.Table+D+Open.negation.Goals as goal

pub returns-clause-negated : goal.returns-clause-negated
returns-clause-negated g c =
    let b = c.args.self.now in
    let S = g.met.D.Domain.sound b.domain in
    let L = c.in_ok-lawful.ensures in
    (L, negation_stands (model_of b) S (letter_count b) _ c.args.f c.in_ok-weight.weight L (negated_ok (model_of b) S c.args.f.weight c.in_ok-weight.weight L.coded c.in_ok-weight.ensures))

pub returns-clause-opposite : goal.returns-clause-opposite
returns-clause-opposite g c =
    let b = c.args.self.now in
    let S = g.met.D.Domain.sound b.domain in
    let L = c.in_ok-lawful.ensures in
    negated_value (model_of b) S c.args.f.weight c.in_ok-weight.weight L.coded (negated_ok (model_of b) S c.args.f.weight c.in_ok-weight.weight L.coded c.in_ok-weight.ensures)
