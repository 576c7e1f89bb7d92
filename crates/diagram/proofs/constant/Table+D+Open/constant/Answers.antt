use Rattle.std.proofs.Common.{pos, sym, ◌∙◌}
use Rattle.domain.specs.Numbers.{number}
use Rattle.diagram.specs.Terms.{model_of, letter_count}
use Rattle.diagram.proofs.Negating.{constant-stands}
use Rattle.diagram.proofs.Refusing.{natural_ok}
use Rattle.diagram.proofs.constant.Table+D+Open.constant.Goals as goal

pub returns-then-is_code : goal.returns-then-is_code
returns-then-is_code g c =
    let t = c.args.self.now in
    constant-stands (model_of t) (g.met.D.Domain.sound t.domain) (letter_count t) _ c.in_ok-weight.weight (number (pos c.args.n)) (natural_ok c.args.n c.in_ok-weight.weight c.in_ok-weight.ensures) (sym c.is_code.ensures ∙ c.if-is_code.true)
