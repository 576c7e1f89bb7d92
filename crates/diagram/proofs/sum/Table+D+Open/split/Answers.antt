use Rattle.diagram.specs.Terms.{model_of, letter_count}
use Rattle.diagram.proofs.Parting.{parted_one, parted_other, parted_at, low_never, high_never}
use Rattle.diagram.proofs.sum.Table+D+Open.split.Goals as goal

pub returns-then-f-eq0-clause-parted : goal.returns-then-f-eq0-clause-parted
returns-then-f-eq0-clause-parted g c = λ C.
    let b = c.args.self.now in
    parted_one (model_of b) (g.met.D.Domain.sound b.domain) (letter_count b) _ c.args.f c.args.x C c.if-f-eq0.true

pub returns-then-e-x-clause-parted : goal.returns-then-e-x-clause-parted
returns-then-e-x-clause-parted g c = λ C.
    let b = c.args.self.now in
    parted_other (model_of b) (g.met.D.Domain.sound b.domain) (letter_count b) _ c.args.f c.args.x C c.index-e.result.now b.store.falling c.if-f-eq0.false c.index-e.ensures c.if-e-x.true

pub returns-in_err-low-clause-parted : goal.returns-in_err-low-clause-parted
returns-in_err-low-clause-parted g c = λ C.
    let b = c.args.self.now in
    absurd (low_never (model_of b) (g.met.D.Domain.sound b.domain) (letter_count b) _ c.args.f c.args.x C c.index-e.result.now b.store.falling c.if-f-eq0.false c.index-e.ensures _ c.in_err-low.ensures)

pub returns-in_err-high-clause-parted : goal.returns-in_err-high-clause-parted
returns-in_err-high-clause-parted g c = λ C.
    let b = c.args.self.now in
    absurd (high_never (model_of b) (g.met.D.Domain.sound b.domain) (letter_count b) _ c.args.f c.args.x C c.index-e.result.now b.store.falling c.if-f-eq0.false c.index-e.ensures _ c.in_err-high.ensures)

pub returns-clause-parted : goal.returns-clause-parted
returns-clause-parted g c = λ C.
    let b = c.args.self.now in
    let low = c.in_ok-low.ensures in
    let high = c.in_ok-high.ensures in
    parted_at (model_of b) (g.met.D.Domain.sound b.domain) (letter_count b) _ c.args.f c.args.x C c.index-e.result.now b.store.falling c.if-f-eq0.false c.index-e.ensures _ _ c.if-e-x.false low.0 high.0 low.1 high.1
