use Rattle.polynomial.proofs.mass_laws.Goals as goal
use Rattle.polynomial.proofs.Theorems.{mass_laws}

pub returns : goal.returns
returns g c = mass_laws (g.D.Domain.model c.args.domain.now) (g.met.D.Domain.sound c.args.domain.now)
