use Rattle.diagram.specs.Terms.{model_of, letter_count}
use Rattle.diagram.proofs.Lettering.{joins, lettered}
use Rattle.diagram.proofs.letter.Table+D+Open.letter.Goals as goal

pub returns-clause-kept : goal.returns-clause-kept
returns-clause-kept g c = λ K.
    let b = c.args.self.now in
    let p = c.in_ok-place.ensures in
    lettered (model_of b) (g.met.D.Domain.sound b.domain) (letter_count b) _ K c.in_ok-place.place p.0 _ _ _ _ _ p.0 p.1 c.node.result c.node.ensures.moved
    (c.node.ensures.joined (joins (model_of b) (g.met.D.Domain.sound b.domain) (letter_count b) _ K c.in_ok-place.place p.0))
