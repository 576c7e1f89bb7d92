use Rattle.polynomial.proofs.degree_laws.Goals as goal
use Rattle.polynomial.proofs.Theorems.{degree_laws}

pub returns : goal.returns
returns g c = degree_laws (g.D.Domain.model c.args.domain.now) (g.met.D.Domain.sound c.args.domain.now)
