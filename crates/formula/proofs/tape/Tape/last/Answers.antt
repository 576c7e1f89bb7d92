use Rattle.std.proofs.Common.{arith}
use Rattle.formula.proofs.Taped.{last_is}
use Rattle.formula.proofs.tape.Tape.last.Goals as goal

pub returns : goal.returns
returns c = λ e w. last_is _ e _ (omega arith) w
