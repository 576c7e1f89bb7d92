-- What holds of all texts and formulas.
use Rattle.std.specs.Prelude.{◌≡◌, ℕ, ◌<◌, List, length, Result, slice_index_or}
use Rattle.domain.specs.declared.fault.Fault.{Fault}
use Rattle.domain.specs.Ring.{Ring}
use Rattle.formula.specs.declared.record.Record.{Record}
use Rattle.formula.specs.Answer.{Answer}
use Rattle.formula.specs.Flow.{Formed}
use Rattle.formula.specs.Formulas.{Formula}
use Rattle.formula.specs.Grammar.{Spells}
use Rattle.formula.specs.Meaning.{meaning, flow_value}
use Rattle.formula.specs.Records.{records}

-- a text spells at most one formula
abbrev pub SpelledOnce : Type 0
SpelledOnce = (f g : Formula) (text : List ℕ) → Spells f text → Spells g text → f ≡ g

-- a text and a buffer have one answer, and one buffer behind it
abbrev pub AnsweredOnce : Type 0
AnsweredOnce = (text buffer after after' : List ℕ) (r r' : Result ℕ Fault) → Answer text buffer after r → Answer text buffer after' r' → (r ≡ r') × (after ≡ after')

-- a formula that is spelled has a record, and each of its records may stand at its place
abbrev pub WellFormed : Type 0
WellFormed = (f : Formula) (text : List ℕ) → Spells f text → (0 < length (records f)) × ((place : ℕ) (d : Record) → place < length (records f) → Formed place (slice_index_or (records f) place d))

-- the flow of a formula that is spelled has the formula's meaning as its value, in the arithmetic R
abbrev pub FlowMeans : {E : Type 0} → Ring E → Type 0
FlowMeans {E} R = (number variable : ℕ → E) (f : Formula) (text : List ℕ) → Spells f text → flow_value R number variable (records f) ≡ meaning R number variable f
