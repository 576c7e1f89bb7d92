use Rattle.std.proofs.Common.{sym, subst, arith}
use Rattle.diagram.specs.Nodes.{Denied}
use Rattle.diagram.specs.Tables.{ShallowOver}
use Rattle.diagram.specs.Terms.{model_of, letter_count, entries_of}
use Rattle.diagram.proofs.Degrees.{shallow_on}
use Rattle.diagram.proofs.Joining.{joined_none, joined-factored, denied_factored}
use Rattle.diagram.proofs.Refusing.{fails, factored_ok}
use Rattle.diagram.proofs.node.Table+D+Open.node.Goals as goal

pub returns-then-is_zero-clause-joined : goal.returns-then-is_zero-clause-joined
returns-then-is_zero-clause-joined g c = λ J.
    let b = c.args.self.now in
    joined_none (model_of b) (g.met.D.Domain.sound b.domain) (letter_count b) _ _ _ _ J _ (omega (arith, b.store.few, b.store.entries.ok.0)) (sym c.if-is_zero.ensures)

pub returns-in_err-entry-clause-joined : goal.returns-in_err-entry-clause-joined
returns-in_err-entry-clause-joined g c = λ J.
    let b = c.args.self.now in
    let h = c.in_err-entry.ensures.interned in
    fails c.from_residual-in_err-entry.result _ _ c.from_residual-in_err-entry.ensures.1
    (λ _ q. subst (Denied (model_of b) _ _ _) (sym q)
    (denied_factored (model_of b) (g.met.D.Domain.sound b.domain) (letter_count b) _ _ _ _ J (sym c.if-is_zero.ensures) _ b.store.falling (c.in_ok-weight.weight, c.in_ok-weight.p, c.in_ok-weight.q)
    (factored_ok (model_of b) _ _ _ J.left.coded J.right.coded (sym c.if-is_zero.ensures) c.in_ok-weight.ensures) _ h.0 h.1 h.2))

pub returns-clause-joined : goal.returns-clause-joined
returns-clause-joined g c = λ J.
    let b = c.args.self.now in
    let s = c.intern.new.self.store in
    joined-factored (model_of b) (g.met.D.Domain.sound b.domain) (letter_count b) _ _ _ _ J (sym c.if-is_zero.ensures) _ _ b.store.falling (c.in_ok-weight.weight, c.in_ok-weight.p, c.in_ok-weight.q)
    (factored_ok (model_of b) _ _ _ J.left.coded J.right.coded (sym c.if-is_zero.ensures) c.in_ok-weight.ensures) _ s.falling (omega (arith, s.few, s.entries.ok.0, c.intern.ensures.frame.capacity)) c.in_ok-entry.ensures.interned

pub returns-clause-shallow : goal.returns-clause-shallow
returns-clause-shallow g c = λ s h.
    let b = c.args.self.now in
    subst (λ d. ShallowOver (g.D.Domain.model d) (entries_of c.intern.new.self)) (sym c.intern.ensures.frame.domain) (shallow_on (model_of b) _ _ _ _ s c.requires.low h c.in_ok-entry.ensures.interned)
