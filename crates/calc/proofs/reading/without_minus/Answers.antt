use Rattle.std.proofs.Common.{rules, arith}
use Rattle.std.proofs.lemmas.Str.Pattern.{strip_prefix_char}
use Rattle.calc.proofs.reading.without_minus.Goals as goal

pub returns : goal.returns
returns c =
    let cases = strip_prefix_char 45 c.args.word.now c.strip_prefix.result c.strip_prefix.ensures.cases (omega arith) in
    search rules
