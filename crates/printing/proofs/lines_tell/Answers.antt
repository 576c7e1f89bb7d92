use Rattle.printing.proofs.Lines.{lines_tell}
use Rattle.printing.proofs.lines_tell.Goals as goal

pub returns : goal.returns
returns g c = lines_tell (g.D.Domain.model c.args.domain.now) (g.met.D.Domain.sound c.args.domain.now)
