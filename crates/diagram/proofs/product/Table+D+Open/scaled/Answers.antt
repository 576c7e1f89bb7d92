use Rattle.std.proofs.Common.{sym}
use Rattle.diagram.specs.Terms.{model_of, letter_count, entries_of}
use Rattle.diagram.proofs.Multiplying.{scaled_zero, scaled_never, scaled_stands}
use Rattle.diagram.proofs.product.Table+D+Open.scaled.Goals as goal

pub returns-then-is_zero-clause-scaled : goal.returns-then-is_zero-clause-scaled
returns-then-is_zero-clause-scaled g c = λ A.
    let b = c.args.self.now in
    scaled_zero (model_of b) (g.met.D.Domain.sound b.domain) (letter_count b) (entries_of b) c.args.weight c.args.f A (sym c.if-is_zero.ensures)

pub returns-in_err-weight-clause-scaled : goal.returns-in_err-weight-clause-scaled
returns-in_err-weight-clause-scaled g c = λ A.
    let b = c.args.self.now in
    absurd (scaled_never (model_of b) (g.met.D.Domain.sound b.domain) (letter_count b) (entries_of b) c.args.weight c.args.f A _ c.in_err-weight.ensures)

pub returns-clause-scaled : goal.returns-clause-scaled
returns-clause-scaled g c = λ A.
    let b = c.args.self.now in
    scaled_stands (model_of b) (g.met.D.Domain.sound b.domain) (letter_count b) (entries_of b) c.args.weight c.args.f A c.in_ok-weight.weight (sym c.if-is_zero.ensures) c.in_ok-weight.ensures
