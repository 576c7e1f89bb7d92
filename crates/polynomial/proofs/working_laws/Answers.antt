use Rattle.polynomial.proofs.working_laws.Goals as goal
use Rattle.polynomial.proofs.Theorems.{working_laws}

pub returns : goal.returns
returns g c = working_laws (g.D.Domain.model c.args.domain.now) (g.met.D.Domain.sound c.args.domain.now)
