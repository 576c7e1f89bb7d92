use Rattle.std.proofs.Common.{ap, subst}
use Rattle.polynomial.specs.Polynomials.{Poly}
use Rattle.diagram.specs.Terms.{model_of, letter_count, entries_of, polynomial_of, Gained, Denied, DiagramOf}
use Rattle.diagram.proofs.Differing.{small_sum, differs}
use Rattle.diagram.proofs.sum.Table+D+Open.difference.Goals as goal

pub returns-clause-every : goal.returns-clause-every
returns-clause-every g c =
    let b = c.args.self.now in
    let S = g.met.D.Domain.sound b.domain in
    let N = c.in_ok-negated.ensures in
    differs (model_of b) S (entries_of b) c.args.f c.args.g c.in_ok-negated.negated N.negated.0 N.negated.1.lawful N.fault N.opposite _ _ _ _
    (λ v h. (h.0, small_sum (model_of b) S (entries_of b) c.args.f c.args.g c.in_ok-negated.negated N.negated.0 N.negated.1.lawful N.fault N.opposite h.1)) (λ e h. h) c.sum.result c.sum.ensures.every

pub returns-clause-kept : goal.returns-clause-kept
returns-clause-kept g c = λ K.
    let b = c.args.self.now in
    let S = g.met.D.Domain.sound b.domain in
    let N = c.in_ok-negated.ensures in
    let same = ap ((Poly (model_of b).ring (letter_count b)).add (polynomial_of b c.args.f)) N.negated.1.is in
    differs (model_of b) S (entries_of b) c.args.f c.args.g c.in_ok-negated.negated N.negated.0 N.negated.1.lawful N.fault N.opposite _ _ _ _
    (λ v h. subst (λ p. Gained b c.sum.new.self p v) same h) (λ e h. subst (λ p. Denied b (DiagramOf b p) e) same h) c.sum.result (c.sum.ensures.kept K)
