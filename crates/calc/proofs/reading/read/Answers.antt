use Rattle.std.proofs.Common.{◌∙◌}
use Rattle.std.proofs.lemmas.Result.{MatchResult-at_ok}
use Rattle.calc.proofs.Spelling.{asks_all, ok_gave}
use Rattle.calc.proofs.reading.read.Goals as goal

pub returns-in-None : goal.returns-in-None
returns-in-None c =
    let utf8 = MatchResult-at_ok _ _ _ (ok_gave c.from_utf8.result c.ok.ensures.value c.in_ok-text.was) c.from_utf8.ensures.cases in
    let named = MatchResult-at_ok _ _ _ (ok_gave c.parse.result c.ok-2.ensures.value c.in_ok-domain.was) c.parse.ensures.value in
    asks_all _ (c.split_whitespace-words.ensures.rest ∙ utf8.0) c.in_ok-next.ensures.steps named c.in_ok-query.ensures c.in-None.ensures.steps.1
