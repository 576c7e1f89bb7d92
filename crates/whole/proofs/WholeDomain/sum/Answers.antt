use Rattle.std.proofs.Common.{◌+ℤ◌, ◌∙◌}
use Rattle.whole.proofs.Fitting.{tried}
use Rattle.whole.proofs.WholeDomain.sum.Goals as goal

pub returns : goal.returns
returns c =
    c.encode.ensures
    ∙ tried ◌+ℤ◌ c.args.a c.args.b c.in-ok-x.x c.in-ok-y.y c.checked-add.result c.in-ok-x.ensures c.in-ok-y.ensures c.checked-add.ensures
