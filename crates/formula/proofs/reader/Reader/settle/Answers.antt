use Rattle.std.proofs.Common.{refl}
use Rattle.formula.proofs.Followed.{follow_settle}
use Rattle.formula.proofs.reader.Reader.settle.Goals as goal

pub returns : goal.returns
returns c = λ st l ls w. follow_settle st l ls c.args.self.now _ w c.settle.ensures refl refl
