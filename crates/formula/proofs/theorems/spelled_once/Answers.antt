use Rattle.formula.proofs.Places.{once}
use Rattle.formula.proofs.theorems.spelled_once.Goals as goal

pub returns : goal.returns
returns c = once
