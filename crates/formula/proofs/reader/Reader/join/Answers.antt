use Rattle.std.proofs.Common.{refl, Some}
use Rattle.formula.proofs.Followed.{follow_join}
use Rattle.formula.proofs.reader.Reader.join.Goals as goal

pub returns : goal.returns
returns c = λ st f l ls v w.
    (refl, follow_join st f l ls c.args.sign _ _ _ v w c.close_sum.ensures c.last.ensures (λ i. record { sum = Some (c.args.sign, c.last.result); product = c.default.ensures.1.0 i; negations = c.default.ensures.1.1 i }) refl)
