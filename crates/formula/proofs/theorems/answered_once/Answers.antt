use Rattle.formula.proofs.Pinned.{pinned}
use Rattle.formula.proofs.theorems.answered_once.Goals as goal

pub returns : goal.returns
returns c = pinned
