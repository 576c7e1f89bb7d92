use Rattle.std.proofs.Common.{refl}
use Rattle.formula.proofs.Followed.{follow_times}
use Rattle.formula.proofs.reader.Reader.times.Goals as goal

pub returns : goal.returns
returns c = λ st f l ls v w. (refl, follow_times st f l ls c.args.self.now _ _ v w (assumption) c.last.ensures refl refl)
