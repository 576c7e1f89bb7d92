use Rattle.printing.proofs.Lines.{lines_spell}
use Rattle.printing.proofs.lines_spell.Goals as goal

pub returns : goal.returns
returns g c = lines_spell (g.D.Domain.model c.args.domain.now) (g.met.D.Domain.sound c.args.domain.now)
