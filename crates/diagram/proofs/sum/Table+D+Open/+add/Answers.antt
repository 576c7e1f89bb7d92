use Rattle.std.proofs.Common.{◌+◌, ◌≤◌, length, Ok, Err, sym, subst, ◌∙◌, arith}
use Rattle.polynomial.specs.Trees.{tree_degree}
use Rattle.diagram.specs.Listed.{listed}
use Rattle.diagram.specs.Nodes.{Denied}
use Rattle.diagram.specs.Sums.{Addable}
use Rattle.diagram.specs.Tables.{tree, most_degree}
use Rattle.diagram.specs.Terms.{model_of, letter_count, entries_of}
use Rattle.diagram.proofs.Refusing.{fails}
use Rattle.diagram.proofs.Summing.{moved_then, moved_by, if_ok, same_frame, Ends, Joining, ones_granted, low_addable, low_fails, high_addable, high_fails, sum_degree, sum_ends}
use Rattle.diagram.proofs.sum.Table+D+Open.+add.Goals as goal

pub returns-then-g-eq0-clause-added : goal.returns-then-g-eq0-clause-added
returns-then-g-eq0-clause-added g t c = λ A.
    let b = c.args.self.now in
    ones_granted (model_of b) (g.met.D.Domain.sound b.domain) (letter_count b) _ c.args.f c.args.g A c.if-f-eq0.true c.if-g-eq0.true _ c.in_ok-weight.weight (omega (arith, b.store.few, b.store.entries.ok.0)) c.in_ok-weight.ensures

pub returns-in_err-low-clause-added : goal.returns-in_err-low-clause-added
returns-in_err-low-clause-added g t c = λ A.
    let b = c.args.self.now in
    fails c.from_residual-in_err-low.result _ _ c.from_residual-in_err-low.ensures.1
    (λ _ q. subst (Denied (model_of b) _ _ _) (sym q)
    (low_fails (model_of b) (g.met.D.Domain.sound b.domain) (letter_count b) _ c.top-x.result c.args.f c.args.g _ _ _ _ A c.top-x.ensures.known c.top-x.ensures.top c.in_ok-f_low.ensures.parted c.in_ok-g_low.ensures.parted
    _ (entries_of c.add.new.self) _ c.in_err-low.ensures.added))

pub returns-in_err-high-clause-added : goal.returns-in_err-high-clause-added
returns-in_err-high-clause-added g t c = λ A.
    let b = c.args.self.now in
    let u = c.add.new.self in
    let v = c.add-2.new.self in
    let F = c.add.ensures.frame in
    fails c.from_residual-in_err-high.result _ _ c.from_residual-in_err-high.ensures.1
    (λ _ q. subst (Denied (model_of b) _ _ _) (sym q)
    (high_fails (model_of b) (g.met.D.Domain.sound b.domain) (letter_count b) _ c.top-x.result c.args.f c.args.g _ _ _ _ A c.top-x.ensures.known c.top-x.ensures.top c.in_ok-f_low.ensures.parted c.in_ok-g_low.ensures.parted
    _ (entries_of u) c.in_ok-low.low c.add.ensures.moved c.in_ok-low.ensures.added (entries_of v) _
    (same_frame (λ d o n. Ends (g.D.Domain.model d) (length (listed o)) n (entries_of u) (entries_of v) c.in_ok-f_low.f_high c.in_ok-g_low.g_high (Err c.in_err-high.field-0.0)) F.domain F.order F.capacity c.in_err-high.ensures.added)))

pub returns-clause-moved : goal.returns-clause-moved
returns-clause-moved g t c =
    moved_then _ _ _ c.add.ensures.moved (moved_then _ _ _ c.add-2.ensures.moved (moved_by (λ t. entries_of t) c.add-2.new.self c.node.new.self _ c.node.result c.node.ensures.moved))

pub returns-clause-added : goal.returns-clause-added
returns-clause-added g t c = λ A.
    let b = c.args.self.now in
    let u = c.add.new.self in
    let v = c.add-2.new.self in
    let F = c.add.ensures.frame in
    let G = c.add-2.ensures.frame in
    sum_ends (model_of b) (g.met.D.Domain.sound b.domain) (letter_count b) _ c.top-x.result c.args.f c.args.g _ _ _ _ A c.top-x.ensures.known c.top-x.ensures.top c.in_ok-f_low.ensures.parted c.in_ok-g_low.ensures.parted
    _ (entries_of u) c.in_ok-low.low c.add.ensures.moved c.in_ok-low.ensures.added (entries_of v) c.in_ok-high.high c.add-2.ensures.moved
    (same_frame (λ d o n. Ends (g.D.Domain.model d) (length (listed o)) n (entries_of u) (entries_of v) c.in_ok-f_low.f_high c.in_ok-g_low.g_high (Ok c.in_ok-high.high)) F.domain F.order F.capacity c.in_ok-high.ensures.added)
    _ c.node.result (moved_by (λ t. entries_of t) v c.node.new.self _ c.node.result c.node.ensures.moved)
    (same_frame (λ d o n. Joining (g.D.Domain.model d) (length (listed o)) n (entries_of v) (entries_of c.node.new.self) c.top-x.result c.in_ok-low.low c.in_ok-high.high c.node.result)
    (G.domain ∙ F.domain) (G.order ∙ F.order) (G.capacity ∙ F.capacity) c.node.ensures.joined)

pub returns-clause-shallow : goal.returns-clause-shallow
returns-clause-shallow g t c = λ A shallow.
    let b = c.args.self.now in
    let sound = g.met.D.Domain.sound b.domain in
    let u = c.add.new.self in
    let v = c.add-2.new.self in
    let F = c.add.ensures.frame in
    let G = c.add-2.ensures.frame in
    let low = low_addable (model_of b) sound (letter_count b) _ c.top-x.result c.args.f c.args.g _ _ _ _ A c.top-x.ensures.known c.top-x.ensures.top c.in_ok-f_low.ensures.parted c.in_ok-g_low.ensures.parted in
    let high = high_addable (model_of b) sound (letter_count b) _ c.top-x.result c.args.f c.args.g _ _ _ _ A c.top-x.ensures.known c.top-x.ensures.top c.in_ok-f_low.ensures.parted c.in_ok-g_low.ensures.parted
    b.store.capacity (entries_of u) c.in_ok-low.low c.add.ensures.moved c.in_ok-low.ensures.added in
    let degree = sum_degree (model_of b) sound (letter_count b) _ c.top-x.result c.args.f c.args.g _ _ _ _ A c.top-x.ensures.known c.top-x.ensures.top c.in_ok-f_low.ensures.parted c.in_ok-g_low.ensures.parted
    b.store.capacity (entries_of u) c.in_ok-low.low c.add.ensures.moved c.in_ok-low.ensures.added (entries_of v) c.in_ok-high.high c.add-2.ensures.moved
    (same_frame (λ d o n. Ends (g.D.Domain.model d) (length (listed o)) n (entries_of u) (entries_of v) c.in_ok-f_low.f_high c.in_ok-g_low.g_high (Ok c.in_ok-high.high)) F.domain F.order F.capacity c.in_ok-high.ensures.added) shallow in
    let there = same_frame (λ d o n. Addable (g.D.Domain.model d) (length (listed o)) (entries_of u) c.in_ok-f_low.f_high c.in_ok-g_low.g_high) (sym F.domain) (sym F.order) (sym F.capacity) high in
    if_ok c.node.result _
    (c.node.ensures.shallow (c.in_ok-high.ensures.shallow there (c.in_ok-low.ensures.shallow low shallow))
    (subst (λ d. 1 + tree_degree (tree (g.D.Domain.model d) (entries_of v) c.in_ok-high.high.entry) ≤ most_degree) (sym (G.domain ∙ F.domain)) degree))
