use Rattle.formula.proofs.WellFormed.{well_formed}
use Rattle.formula.proofs.theorems.well_formed.Goals as goal

pub returns : goal.returns
returns c = well_formed
