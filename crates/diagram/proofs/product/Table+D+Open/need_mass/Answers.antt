use Rattle.std.proofs.Common.{◌≤◌, subst}
use Rattle.domain.specs.declared.fault.Fault.TheVariants.{OverLimit}
use Rattle.diagram.specs.Checks.{Admits}
use Rattle.diagram.specs.Terms.{model_of, mass_of}
use Rattle.diagram.proofs.Weighing.{product_within}
use Rattle.diagram.proofs.product.Table+D+Open.need_mass.Goals as goal

pub returns : goal.returns
returns g c = λ cf cg.
    let t = c.args.self.now in
    let limit = (model_of t).limit in
    product_within (mass_of t c.args.f) (mass_of t c.args.g) _ _ limit _ c.within_limit.result (g.met.D.Domain.sound t.domain).codes.most (c.reference_mass.ensures cf) (c.reference_mass-2.ensures cg)
    (subst (λ p. Admits (p ≤ limit) (OverLimit limit) c.within_limit.result) c.saturating_mul.ensures c.within_limit.ensures)
