use Rattle.std.proofs.Common.{refl}
use Rattle.formula.proofs.Followed.{follow_close}
use Rattle.formula.proofs.reader.Reader.close.Goals as goal

pub returns : goal.returns
returns c = λ st f l ls v w. follow_close st f l ls _ _ _ c.in_ok-level.ensures.items v w c.close_sum.ensures refl
