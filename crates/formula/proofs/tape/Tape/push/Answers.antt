use Rattle.std.proofs.Common.{arith}
use Rattle.std.proofs.lemmas.Bool.Decides.{nat_tests}
use Rattle.formula.proofs.Taped.{wrote_full, wrote_more}
use Rattle.formula.proofs.tape.Tape.push.Goals as goal

pub returns-then-not-is_full : goal.returns-then-not-is_full
returns-then-not-is_full c = λ e w. wrote_more _ _ e _ (grind (arith, nat_tests)) c.push.ensures.items w

pub returns-else-not-is_full : goal.returns-else-not-is_full
returns-else-not-is_full c = λ e w. wrote_full _ e _ (grind (arith, nat_tests)) w
