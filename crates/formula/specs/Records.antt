-- The records of a formula.
use Rattle.std.specs.Prelude.{ℕ, zero, suc, ◌-◌, List, [], ◌∷◌, ◌++◌, length}
use Rattle.formula.specs.declared.record.Record.{Record}
use Rattle.formula.specs.declared.record.Record.TheVariants.{Constant, Letter, Sum, Difference, Product, Negation}
use Rattle.formula.specs.Formulas.{Formula}
use Rattle.formula.specs.Formulas.Formula.{constant, letter, sum, difference, product, negation, power}

-- e, and then an operator's record, over the last record of a and the last of e
abbrev pub joined : (ℕ → ℕ → Record) → List Record → List Record → List Record
joined make a e = e ++ make (length a - 1) (length e - 1) ∷ []

-- e, and then k products by record b, each of the record before it
abbrev pub products : ℕ → List Record → ℕ → List Record
products b e zero = e
products b e (suc k) = products b (e ++ Product (length e - 1) b ∷ []) k

-- e, and then the records of a formula: the left operand's, the right's, the operator's; of a power its base's, and then a product for each time past the first
abbrev pub written : List Record → Formula → List Record
written e (constant n) = e ++ Constant n ∷ []
written e (letter i) = e ++ Letter i ∷ []
written e (sum f g) = joined Sum (written e f) (written (written e f) g)
written e (difference f g) = joined Difference (written e f) (written (written e f) g)
written e (product f g) = joined Product (written e f) (written (written e f) g)
written e (negation f) = written e f ++ Negation (length (written e f) - 1) ∷ []
written e (power f k) = products (length (written e f) - 1) (written e f) (k - 1)

-- the records of a formula, whose last is the formula's own
abbrev pub records : Formula → List Record
records f = written [] f
