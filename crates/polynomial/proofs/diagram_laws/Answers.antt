use Rattle.polynomial.proofs.diagram_laws.Goals as goal
use Rattle.polynomial.proofs.Theorems.{diagram_laws}

pub returns : goal.returns
returns g c = diagram_laws (g.D.Domain.model c.args.domain.now) (g.met.D.Domain.sound c.args.domain.now)
