use Rattle.polynomial.proofs.polynomial_laws.Goals as goal
use Rattle.polynomial.proofs.Theorems.{ring_laws, coefficient_laws}

pub returns : goal.returns
returns g c = record { ring = ring_laws (g.D.Domain.model c.args.domain.now) (g.met.D.Domain.sound c.args.domain.now); coefficients = coefficient_laws (g.D.Domain.model c.args.domain.now) (g.met.D.Domain.sound c.args.domain.now) }
