use Rattle.polynomial.proofs.growth_laws.Goals as goal
use Rattle.polynomial.proofs.Theorems.{growth_laws, room, known_entries}

pub returns : goal.returns
returns g c = record {
  composes = growth_laws g.D.Domain.carrier;
  room = room (g.D.Domain.model c.args.domain.now) (g.met.D.Domain.sound c.args.domain.now);
  known = known_entries g.D.Domain.carrier;
}
