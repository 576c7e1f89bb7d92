-- The exponents of a byte and of its inverse add up to 255, and 3 to the power 255 is 1.
use Rattle.std.proofs.Common.{◌∙◌}
use Rattle.byte.specs.ByteProducts.{inverse_by}
use Rattle.byte.proofs.inverse_of.Goals as goal

pub returns : goal.returns
returns c =
    let log = c.logarithm.ensures in
    c.power.ensures ∙ inverse_by c.args.a c.logarithm.result c.ranges.a.fits c.requires log.small (log.of_other c.requires)
