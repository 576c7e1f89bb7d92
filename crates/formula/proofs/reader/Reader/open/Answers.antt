use Rattle.std.proofs.Common.{◌≡◌, ◌<◌, ◌≤◌, ◌∷◌, [], ◌++◌, length, refl, arith}
use Rattle.std.proofs.lemmas.Grind.{common_steps}
use Rattle.formula.specs.Limits.{max_open}
use Rattle.formula.proofs.Followed.{follow_open, follow_full}
use Rattle.formula.proofs.reader.Reader.open.Goals as goal

pub returns-in_err-ok : goal.returns-in_err-ok
returns-in_err-ok c = λ l ls w.
    let full : max_open ≤ length c.args.self.now.outer.items = grind (arith, common_steps) in
    follow_full l ls c.args.self.now _ _ full w c.from_residual.ensures

pub returns : goal.returns
returns c = λ l ls w.
    let room : length c.args.self.now.outer.items < max_open = grind (arith, common_steps) in
    let more : c.try_push.new.self.items ≡ c.args.self.now.outer.items ++ c.args.self.now.level ∷ [] = grind (arith, common_steps) in
    follow_open l ls c.args.self.now _ room w (λ i. record { sum = c.default-self.ensures.0 i; product = c.default-self.ensures.1.0 i; negations = c.default-self.ensures.1.1 i }) more refl
