use Rattle.std.proofs.Common.{sym, subst, arith}
use Rattle.diagram.specs.Nodes.{Denied}
use Rattle.diagram.specs.Terms.{model_of, letter_count, capacity_of, entries_of}
use Rattle.diagram.proofs.Multiplying.{first_constant, second_constant}
use Rattle.diagram.proofs.Refusing.{fails}
use Rattle.diagram.proofs.Stages.{cuts_first, low_denied, high_denied, node_denied, product_ends, product_shallow}
use Rattle.diagram.proofs.product.Table+D+Open.+multiply.Goals as goal

pub returns-then-f-eq0-clause-multiplied : goal.returns-then-f-eq0-clause-multiplied
returns-then-f-eq0-clause-multiplied g t c = λ A.
    let b = c.args.self.now in
    first_constant (model_of b) (g.met.D.Domain.sound b.domain) (letter_count b) (entries_of b) c.args.f c.args.g A (capacity_of b) (omega (arith, b.store.few, b.store.entries.ok.0)) c.if-f-eq0.true c.scaled.result c.scaled.ensures.scaled

pub returns-then-g-eq0-clause-multiplied : goal.returns-then-g-eq0-clause-multiplied
returns-then-g-eq0-clause-multiplied g t c = λ A.
    let b = c.args.self.now in
    second_constant (model_of b) (g.met.D.Domain.sound b.domain) (letter_count b) (entries_of b) c.args.f c.args.g A (capacity_of b) (omega (arith, b.store.few, b.store.entries.ok.0)) c.if-g-eq0.true c.scaled-then-g-eq0.result c.scaled-then-g-eq0.ensures.scaled

pub returns-in_err-without-clause-multiplied : goal.returns-in_err-without-clause-multiplied
returns-in_err-without-clause-multiplied g t c = λ A.
    let b = c.args.self.now in
    let o = c.order-letter.result in
    absurd (c.in_err-without.ensures.parted (cuts_first b (g.met.D.Domain.sound b.domain) c.args.f c.args.g A o.0 o.1 o.2 c.order-letter.ensures.ordered))

pub returns-in_err-low-clause-multiplied : goal.returns-in_err-low-clause-multiplied
returns-in_err-low-clause-multiplied g t c = λ A.
    let b = c.args.self.now in
    let o = c.order-letter.result in
    let e = c.in_err-low.field-0.0 in
    fails c.from_residual-in_err-low.result _ _ c.from_residual-in_err-low.ensures.1
    (λ _ q. subst (Denied (model_of b) _ _ _) (sym q)
    (low_denied b (g.met.D.Domain.sound b.domain) c.args.f c.args.g A o.0 o.1 o.2 c.order-letter.ensures.ordered c.in_ok-without.without c.in_ok-without.multiplied c.in_ok-without.ensures.parted c.multiply.new.self e c.in_err-low.ensures.multiplied))

pub returns-in_err-high-clause-multiplied : goal.returns-in_err-high-clause-multiplied
returns-in_err-high-clause-multiplied g t c = λ A.
    let b = c.args.self.now in
    let o = c.order-letter.result in
    let e = c.in_err-high.field-0.0 in
    fails c.from_residual-in_err-high.result _ _ c.from_residual-in_err-high.ensures.1
    (λ _ q. subst (Denied (model_of b) _ _ _) (sym q)
    (high_denied b (g.met.D.Domain.sound b.domain) c.args.f c.args.g A o.0 o.1 o.2 c.order-letter.ensures.ordered c.in_ok-without.without c.in_ok-without.multiplied c.in_ok-without.ensures.parted
    c.multiply.new.self c.in_ok-low.low c.multiply.ensures.frame c.multiply.ensures.moved c.in_ok-low.ensures.multiplied c.multiply-2.new.self e c.in_err-high.ensures.multiplied))

pub returns-in_err-shifted-clause-multiplied : goal.returns-in_err-shifted-clause-multiplied
returns-in_err-shifted-clause-multiplied g t c = λ A.
    let b = c.args.self.now in
    let o = c.order-letter.result in
    let e = c.in_err-shifted.field-0.0 in
    fails c.from_residual-in_err-shifted.result _ _ c.from_residual-in_err-shifted.ensures.1
    (λ _ q. subst (Denied (model_of b) _ _ _) (sym q)
    (node_denied b (g.met.D.Domain.sound b.domain) c.args.f c.args.g A o.0 o.1 o.2 c.order-letter.ensures.ordered c.in_ok-without.without c.in_ok-without.multiplied c.in_ok-without.ensures.parted
    c.multiply.new.self c.in_ok-low.low c.multiply.ensures.frame c.multiply.ensures.moved c.in_ok-low.ensures.multiplied
    c.multiply-2.new.self c.in_ok-high.high c.multiply-2.ensures.frame c.multiply-2.ensures.moved c.in_ok-high.ensures.multiplied c.node.new.self e c.in_err-shifted.ensures.joined))

pub returns-clause-multiplied : goal.returns-clause-multiplied
returns-clause-multiplied g t c = λ A.
    let b = c.args.self.now in
    let o = c.order-letter.result in
    product_ends b (g.met.D.Domain.sound b.domain) c.args.f c.args.g A o.0 o.1 o.2 c.order-letter.ensures.ordered c.in_ok-without.without c.in_ok-without.multiplied c.in_ok-without.ensures.parted
    c.multiply.new.self c.in_ok-low.low c.multiply.ensures.frame c.multiply.ensures.moved c.in_ok-low.ensures.multiplied
    c.multiply-2.new.self c.in_ok-high.high c.multiply-2.ensures.frame c.multiply-2.ensures.moved c.in_ok-high.ensures.multiplied
    c.node.new.self c.in_ok-shifted.shifted c.node.ensures.frame c.in_ok-shifted.ensures.moved.0 c.in_ok-shifted.ensures.joined
    c.add.new.self c.add.result c.add.ensures.added

pub returns-clause-shallow : goal.returns-clause-shallow
returns-clause-shallow g t c = λ A small shallow.
    let b = c.args.self.now in
    let o = c.order-letter.result in
    product_shallow b (g.met.D.Domain.sound b.domain) c.args.f c.args.g A o.0 o.1 o.2 c.order-letter.ensures.ordered c.in_ok-without.without c.in_ok-without.multiplied c.in_ok-without.ensures.parted
    c.multiply.new.self c.in_ok-low.low c.multiply.ensures.frame c.multiply.ensures.moved c.in_ok-low.ensures.multiplied
    c.multiply-2.new.self c.in_ok-high.high c.multiply-2.ensures.frame c.multiply-2.ensures.moved c.in_ok-high.ensures.multiplied
    c.node.new.self c.in_ok-shifted.shifted c.node.ensures.frame c.in_ok-shifted.ensures.moved.0 c.in_ok-shifted.ensures.joined
    c.add.new.self c.add.result small shallow c.in_ok-low.ensures.shallow c.in_ok-high.ensures.shallow c.node.ensures.shallow c.add.ensures.shallow
