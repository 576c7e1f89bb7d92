-- What the reader answers, and what it leaves in the buffer.
use Rattle.std.specs.Prelude.{◌≡◌, ℕ, ◌+◌, ◌*◌, ◌<◌, ◌≤◌, ◌⊎◌, List, ◌++◌, length, take, drop, Ok, Err, Result}
use Rattle.domain.specs.declared.fault.Fault.{Fault}
use Rattle.domain.specs.declared.fault.Fault.TheVariants.{BadOrder, BadCapacity, UnknownLetter, NoCode, Unlawful, OverLimit, OverDegree, Full, BadLength, Malformed, NoFormula, NoRoom, BadExponents, BadInput, Memory}
use Rattle.formula.specs.Flow.{flow_bytes}
use Rattle.formula.specs.Formulas.{Formula}
use Rattle.formula.specs.Grammar.{Spells}
use Rattle.formula.specs.Limits.{max_text, max_records, record_size}
use Rattle.formula.specs.Records.{records}

-- some formula's text, of any length, begins with w
abbrev pub Starts : List ℕ → Type 0
Starts w = (t : List ℕ) × (f : Formula) × Spells f (w ++ t)

-- the text spells no formula, and `place` is the length of its longest beginning with which some formula's text begins
pub record Broken (text : List ℕ) (place : ℕ) : Type 0 where
  pub no_formula : (f : Formula) → Spells f text → ⊥
  pub within : place ≤ length text
  pub starts : Starts (take place text)
  pub stops : place < length text → Starts (take (place + 1) text) → ⊥

-- the text spells f, whose records are more than a flow has, or than the buffer holds
pub record Overflows (text buffer : List ℕ) (f : Formula) : Type 0 where
  pub spelled : Spells f text
  pub over : (max_records < length (records f)) ⊎ (length buffer < record_size * length (records f))

-- the text spells f, whose n records fit; the buffer begins with them afterwards, and keeps the rest
pub record Written (text buffer after : List ℕ) (n : ℕ) (f : Formula) : Type 0 where
  pub spelled : Spells f text
  pub count : n ≡ length (records f)
  pub fits : n ≤ max_records
  pub room : record_size * n ≤ length buffer
  pub bytes : after ≡ flow_bytes (records f) ++ drop (record_size * n) buffer

-- when each refusal is answered
abbrev pub Refused : List ℕ → List ℕ → Fault → Type 0
Refused text buffer (BadLength bytes) = (bytes ≡ length text) × (max_text < length text)
Refused text buffer (NoFormula place) = (length text ≤ max_text) × Broken text place
Refused text buffer (NoRoom room) = (room ≡ length buffer) × (length text ≤ max_text) × ((f : Formula) × Overflows text buffer f)
Refused text buffer (BadOrder letters) = ⊥
Refused text buffer (BadCapacity asked) = ⊥
Refused text buffer (UnknownLetter letter) = ⊥
Refused text buffer (NoCode number) = ⊥
Refused text buffer (Unlawful entry) = ⊥
Refused text buffer (OverLimit limit) = ⊥
Refused text buffer (OverDegree degree) = ⊥
Refused text buffer (Full capacity) = ⊥
Refused text buffer Malformed = ⊥
Refused text buffer (BadExponents given) = ⊥
Refused text buffer BadInput = ⊥
Refused text buffer Memory = ⊥

-- the answer for a text, where the buffer is `buffer` before the call and `after` behind it
abbrev pub Answer : List ℕ → List ℕ → List ℕ → Result ℕ Fault → Type 0
Answer text buffer after (Ok n) = (length text ≤ max_text) × ((f : Formula) × Written text buffer after n f)
Answer text buffer after (Err e) = (after ≡ buffer) × Refused text buffer e
