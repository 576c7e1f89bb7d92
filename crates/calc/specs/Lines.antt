-- Answers as the program prints them.
use Rattle.std.specs.Prelude.{ℕ, List, true, false, ◌++◌, codes, decimal}
use Rattle.std.specs.Fmt.{signed_decimal}
use Rattle.calc.specs.declared.answering.Answer.{Answer}
use Rattle.calc.specs.declared.answering.Answer.TheVariants.{Truth, Natural, Element, Triple}
use Rattle.calc.specs.declared.no_answer.NoAnswer.{NoAnswer}
use Rattle.calc.specs.declared.no_answer.NoAnswer.TheVariants.{NotUnderstood, Refused}
use Rattle.domain.specs.Lines.{refusal}

abbrev pub answer_line : Answer → List ℕ
answer_line (Truth true) = codes "yes"
answer_line (Truth false) = codes "no"
answer_line (Natural n) = decimal n
answer_line (Element a) = signed_decimal a.int
answer_line (Triple g p q) = signed_decimal g.int ++ codes " " ++ signed_decimal p.int ++ codes " " ++ signed_decimal q.int

abbrev pub no_answer_line : NoAnswer → List ℕ
no_answer_line NotUnderstood = codes "not understood"
no_answer_line (Refused fault) = refusal fault
