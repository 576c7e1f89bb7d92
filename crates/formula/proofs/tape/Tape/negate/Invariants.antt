use Rattle.formula.specs.Tapes.{Adds, negated}
use Rattle.formula.proofs.tape.Tape.negate.Given as goal

abbrev pub invariant-loop : goal.invariant-loop
invariant-loop l = Adds l.initial.self l.self (λ e. negated e l.counter)
