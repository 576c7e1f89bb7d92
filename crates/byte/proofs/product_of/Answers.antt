-- A zero factor gives zero; else the exponents add.
use Rattle.std.proofs.Common.{◌∙◌, rules}
use Rattle.byte.specs.ByteProducts.{zero-times, times_zero, product_by}
use Rattle.byte.proofs.product_of.Goals as goal

pub returns-then-a-eq0 : goal.returns-then-a-eq0
returns-then-a-eq0 c = search (rules, zero-times, times_zero)

pub returns : goal.returns
returns c =
    let of_a = c.logarithm.ensures.of_other (search rules) in
    let of_b = c.logarithm-2.ensures.of_other (search rules) in
    c.power.ensures ∙ product_by c.args.a c.args.b c.logarithm.result c.logarithm-2.result of_a of_b
