use Rattle.std.proofs.Common.{◌≡◌, length, arith}
use Rattle.std.proofs.lemmas.Bool.Decides.{nat_tests}
use Rattle.formula.specs.declared.state.State.TheVariants.{Operand, Caret}
use Rattle.formula.proofs.Followed.{follow_finish}
use Rattle.formula.proofs.reader.Reader.finish.Goals as goal
use Rattle.formula.proofs.reader.Reader.finish.Goals.{in-Operand, in_default}

pub returns : goal.returns
returns c = λ st l ls w.
    let outside : length c.args.self.now.outer.items ≡ 0 = grind (arith, nat_tests) in
    let past : (c.args.self.now.state ≡ Operand → ⊥) × (c.args.self.now.state ≡ Caret → ⊥) =
    elim c.match-matches.branch [ in-Operand v ↦ let no : ⊥ = cc in absurd no | in_default v ↦ (v.in_default.not-Operand, v.in_default.not-Caret) ] in
    follow_finish st l ls c.args.self.now _ past.0 past.1 outside w c.close_sum.ensures
