use Rattle.polynomial.proofs.existence.Goals as goal
use Rattle.polynomial.proofs.Theorems.{existence}

pub returns : goal.returns
returns g c = existence (g.D.Domain.model c.args.domain.now) (g.met.D.Domain.sound c.args.domain.now)
