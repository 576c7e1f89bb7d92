use Rattle.std.proofs.Common.{◌*ℤ◌, ◌∙◌}
use Rattle.whole.proofs.Fitting.{tried}
use Rattle.whole.proofs.WholeDomain.product.Goals as goal

pub returns : goal.returns
returns c =
    c.encode.ensures
    ∙ tried ◌*ℤ◌ c.args.a c.args.b c.in_ok-x.x c.in_ok-y.y c.checked_mul.result c.in_ok-x.ensures c.in_ok-y.ensures c.checked_mul.ensures
