use Rattle.std.proofs.Common.{◌∙◌}
use Rattle.std.proofs.lemmas.Nat.Gcd.{IsGcd-from_mod}
use Rattle.whole.specs.Euclid.{gcd-next}
use Rattle.whole.proofs.+gcd.Goals as goal

pub returns-else-b-eq0 : goal.returns-else-b-eq0
returns-else-b-eq0 t c = record {
  value = c.gcd.ensures.value ∙ gcd-next c.args.a c.args.b c.if-b-eq0.false;
  greatest = IsGcd-from_mod c.args.a c.args.b c.gcd.result c.gcd.ensures.greatest;
}
