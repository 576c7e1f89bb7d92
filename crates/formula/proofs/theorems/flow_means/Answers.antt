use Rattle.formula.proofs.Meanings.{flow_means}
use Rattle.formula.proofs.theorems.flow_means.Goals as goal

pub returns : goal.returns
returns g c = flow_means _
