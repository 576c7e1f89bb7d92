use Rattle.std.proofs.Common.{true, false, refl}
use Rattle.diagram.specs.Terms.{model_of, letter_count}
use Rattle.diagram.proofs.Walking.{stopped, never, walked}
use Rattle.diagram.proofs.table.Table.+walk.Goals as goal

pub returns-then-is_spent : goal.returns-then-is_spent
returns-then-is_spent g t c = λ K L.
    let b = c.args.self.now in
    stopped (model_of b) (g.met.D.Domain.sound b.domain) _ c.args.f (letter_count b) c.args.left.now c.requires.long K L c.if-f-eq0.true true c.if-is_spent.ensures _ refl

pub returns-else-is_spent : goal.returns-else-is_spent
returns-else-is_spent g t c = λ K L.
    let b = c.args.self.now in
    stopped (model_of b) (g.met.D.Domain.sound b.domain) _ c.args.f (letter_count b) c.args.left.now c.requires.long K L c.if-f-eq0.true false c.if-is_spent.ensures _ refl

pub returns-in_err-next : goal.returns-in_err-next
returns-in_err-next g t c = λ K L.
    let b = c.args.self.now in
    absurd (never (model_of b) (g.met.D.Domain.sound b.domain) _ c.args.f (letter_count b) c.args.left.now c.requires.long K L b.store.falling c.if-f-eq0.false c.index.result.now c.index.ensures
    c.step-edge.result c.step-edge.new.left c.step-edge.ensures _ c.in_err-next.ensures)

pub returns : goal.returns
returns g t c = λ K L.
    let b = c.args.self.now in
    walked (model_of b) (g.met.D.Domain.sound b.domain) _ c.args.f (letter_count b) c.args.left.now c.requires.long K L b.store.falling c.if-f-eq0.false c.index.result.now c.index.ensures
    c.step-edge.result c.step-edge.new.left c.step-edge.ensures c.in_ok-next.next c.in_ok-next.ensures c.walk.result c.walk.ensures
