-- What the reader's tape holds.
use Rattle.std.specs.Prelude.{◌≡◌, ℕ, zero, suc, ◌+◌, ◌-◌, min, List, [], ◌∷◌, ◌++◌, length, take, Some, None, Option}
use Rattle.formula.specs.Limits.{max_records}
use Rattle.formula.specs.declared.record.Record.{Record}
use Rattle.formula.specs.declared.record.Record.TheVariants.{Constant, Sum, Difference, Product, Negation}
use Rattle.formula.specs.declared.state.State.{State}
use Rattle.formula.specs.declared.state.State.TheVariants.{Operand, Number, Atom, Caret, Exponent, Power}
use Rattle.formula.specs.declared.state.Sign.{Sign}
use Rattle.formula.specs.declared.state.Sign.TheVariants.{Plus, Minus}
use Rattle.formula.specs.declared.state.Level.{Level}
use Rattle.formula.specs.declared.tape.Tape.{Tape}

-- a record's number, as the tape has it: exact while the records fit in a flow
abbrev pub cap : ℕ → ℕ
cap n = min n max_records

-- the number of the last record, as the tape has it
abbrev pub last_number : List Record → ℕ
last_number e = cap (length e - 1)

-- the tape holds the records e, or the first of them where there are more than fit: one more than a flow has
pub record Wrote (t : Tape) (e : List Record) : Type 0 where
  pub records_are : t.records.items ≡ take (max_records + 1) e

-- whatever records the tape t holds, u holds what f makes of them
abbrev pub Adds : Tape → Tape → (List Record → List Record) → Type 0
Adds t u f = (e : List Record) → Wrote t e → Wrote u (f e)

-- whatever records the tape t holds, n is the number of the last
abbrev pub NamesLast : Tape → ℕ → Type 0
NamesLast t n = (e : List Record) → Wrote t e → n ≡ last_number e

-- e, and m negations, each of the record before it
abbrev pub negated : List Record → ℕ → List Record
negated e zero = e
negated e (suc m) = negated e m ++ Negation (last_number (negated e m)) ∷ []

-- e, and k products, each of the record before it by the last record of e
abbrev pub powered : List Record → ℕ → List Record
powered e zero = e
powered e (suc k) = powered e k ++ Product (last_number (powered e k)) (last_number e) ∷ []

-- e, and what a state holds back of the operand that was read
abbrev pub settled : List Record → State → List Record
settled e Operand = e
settled e (Number n) = e ++ Constant n ∷ []
settled e Atom = e
settled e Caret = e
settled e (Exponent k) = powered e (k - 1)
settled e Power = e

-- e, and the product that ends a term, if it has a factor before
abbrev pub multiplied : List Record → Option ℕ → List Record
multiplied e None = e
multiplied e (Some left) = e ++ Product left (last_number e) ∷ []

-- e, and the sum or difference that ends a formula, if it has a term before
abbrev pub added : List Record → Option (Sign × ℕ) → List Record
added e None = e
added e (Some (Plus, left)) = e ++ Sum left (last_number e) ∷ []
added e (Some (Minus, left)) = e ++ Difference left (last_number e) ∷ []

-- e, and what ends a term
abbrev pub termed : List Record → State → Level → List Record
termed e s l = multiplied (negated (settled e s) l.negations) l.product

-- e, and what ends a formula
abbrev pub wholed : List Record → State → Level → List Record
wholed e s l = added (termed e s l) l.sum
