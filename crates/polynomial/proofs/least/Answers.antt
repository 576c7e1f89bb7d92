use Rattle.polynomial.proofs.least.Goals as goal
use Rattle.polynomial.proofs.Theorems.{least_entries, attained}

pub returns : goal.returns
returns g c = record { least = least_entries (g.D.Domain.model c.args.domain.now) (g.met.D.Domain.sound c.args.domain.now); attained = attained (g.D.Domain.model c.args.domain.now) (g.met.D.Domain.sound c.args.domain.now) }
