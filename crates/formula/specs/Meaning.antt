-- The meaning of a formula and the value of a flow, for any arithmetic: numbers, polynomials, or others.
--
-- Throughout, `number n` is the element of the whole number n, and `variable i` that of letter i.
use Rattle.std.specs.Prelude.{ℕ, zero, suc, ◌-◌, List, [], ◌∷◌, ◌++◌, length, slice_index_or}
use Rattle.domain.specs.Ring.{Ring}
use Rattle.formula.specs.declared.record.Record.{Record}
use Rattle.formula.specs.declared.record.Record.TheVariants.{Constant, Letter, Sum, Difference, Product, Negation}
use Rattle.formula.specs.Formulas.{Formula}
use Rattle.formula.specs.Formulas.Formula.{constant, letter, sum, difference, product, negation, power}

-- x as a factor k times, from the left; one where k is 0
abbrev pub raised : {E : Type 0} → Ring E → E → ℕ → E
raised R x zero = R.one
raised R x (suc zero) = x
raised R x (suc (suc k)) = R.mul (raised R x (suc k)) x

-- the element that a formula means
abbrev pub meaning : {E : Type 0} → Ring E → (ℕ → E) → (ℕ → E) → Formula → E
meaning R number variable (constant n) = number n
meaning R number variable (letter i) = variable i
meaning R number variable (sum f g) = R.add (meaning R number variable f) (meaning R number variable g)
meaning R number variable (difference f g) = R.add (meaning R number variable f) (R.neg (meaning R number variable g))
meaning R number variable (product f g) = R.mul (meaning R number variable f) (meaning R number variable g)
meaning R number variable (negation f) = R.neg (meaning R number variable f)
meaning R number variable (power f k) = raised R (meaning R number variable f) k

-- the value of a record, where vs are those of the records before it
abbrev pub record_value : {E : Type 0} → Ring E → (ℕ → E) → (ℕ → E) → List E → Record → E
record_value R number variable vs (Constant n) = number n
record_value R number variable vs (Letter i) = variable i
record_value R number variable vs (Sum l r) = R.add (slice_index_or vs l R.zero) (slice_index_or vs r R.zero)
record_value R number variable vs (Difference l r) = R.add (slice_index_or vs l R.zero) (R.neg (slice_index_or vs r R.zero))
record_value R number variable vs (Product l r) = R.mul (slice_index_or vs l R.zero) (slice_index_or vs r R.zero)
record_value R number variable vs (Negation l) = R.neg (slice_index_or vs l R.zero)

-- vs, and then the values of records behind those of vs
abbrev pub values : {E : Type 0} → Ring E → (ℕ → E) → (ℕ → E) → List E → List Record → List E
values R number variable vs [] = vs
values R number variable vs (r ∷ rs) = values R number variable (vs ++ record_value R number variable vs r ∷ []) rs

-- the value of a flow: its last record's
abbrev pub flow_value : {E : Type 0} → Ring E → (ℕ → E) → (ℕ → E) → List Record → E
flow_value R number variable rs = slice_index_or (values R number variable [] rs) (length rs - 1) R.zero
