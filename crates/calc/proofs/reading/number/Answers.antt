use Rattle.std.proofs.Common.{rules}
use Rattle.calc.proofs.Decimals.{held}
use Rattle.calc.proofs.reading.number.Goals as goal

pub returns : goal.returns
returns c = let value = held c.args.word.now c.parse.result (search rules) c.parse.ensures.value.0 in search rules
