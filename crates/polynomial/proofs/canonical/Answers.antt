use Rattle.polynomial.proofs.canonical.Goals as goal
use Rattle.polynomial.proofs.Theorems.{canonical}

pub returns : goal.returns
returns g c = canonical (g.D.Domain.model c.args.domain.now) (g.met.D.Domain.sound c.args.domain.now)
