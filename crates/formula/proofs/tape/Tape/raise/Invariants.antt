use Rattle.std.proofs.Common.{◌-◌, ◌≤◌}
use Rattle.formula.specs.Tapes.{Adds, powered}
use Rattle.formula.proofs.tape.Tape.raise.Given as goal

abbrev pub invariant-loop : goal.invariant-loop
invariant-loop l = record { on_tape : Adds l.initial.self l.self (λ e. powered e (l.counter - 1)); within : l.counter - 1 ≤ l.k - 1 }
