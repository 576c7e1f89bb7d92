-- The reader as a pure automaton, which holds formulas where the code holds record numbers.
use Rattle.std.specs.Prelude.{ℕ, zero, suc, ◌+◌, ◌*◌, ◌^◌, Bool, true, false, ◌&&◌, List, [], ◌∷◌, length, Some, None, Option, nat_le, nat_lt}
use Rattle.formula.specs.Limits.{max_open, max_exponent}
use Rattle.formula.specs.declared.class.Class.{Class}
use Rattle.formula.specs.declared.class.Class.TheVariants.{Space, Plus, Minus, Star, Caret, Open, Close, Letter, Digit, Other}
use Rattle.formula.specs.Classes.{classify}
use Rattle.formula.specs.Formulas.{Formula}
use Rattle.formula.specs.Formulas.Formula.{constant, letter, sum, difference, product, negation, power}

-- the terms before the one that is being read, and how it joins them
pub data Terms : Type 0 where
  no_terms : Terms
  plus : Formula → Terms
  minus : Formula → Terms

-- the factors before the one that is being read
pub data Factors : Type 0 where
  no_factors : Factors
  times : Formula → Factors

-- what waits for the operand that is being read: terms, factors, and the number of signs in front of it
pub data Level : Type 0 where
  level : Terms → Factors → ℕ → Level

-- where the automaton stands: before an operand, inside a number, past an atom, past ^, inside an exponent, past a factor with an exponent
pub data State : Type 0 where
  awaiting : State
  in_number : ℕ → State
  past_atom : Formula → State
  past_caret : Formula → State
  in_exponent : Formula → ℕ → State
  past_power : Formula → State

-- a state, what waits inside the innermost open parenthesis, and what waits outside each of them
pub data Config : Type 0 where
  config : State → Level → List Level → Config

-- the formula behind n signs
abbrev pub negated : ℕ → Formula → Formula
negated zero f = f
negated (suc n) f = negated n (negation f)

-- the term that ends with a factor
abbrev pub multiplied : Factors → Formula → Formula
multiplied no_factors f = f
multiplied (times g) f = product g f

-- the formula that ends with a term
abbrev pub added : Terms → Formula → Formula
added no_terms f = f
added (plus g) f = sum g f
added (minus g) f = difference g f

-- the term that ends with an operand
abbrev pub term_with : Level → Formula → Formula
term_with (level s p n) f = multiplied p (negated n f)

abbrev pub terms_of : Level → Terms
terms_of (level s p n) = s

-- the formula that ends with an operand
abbrev pub formula_with : Level → Formula → Formula
formula_with l f = added (terms_of l) (term_with l f)

-- nothing waits
abbrev pub empty : Level
empty = level no_terms no_factors zero

-- one more sign
abbrev pub once_negated : Level → Level
once_negated (level s p n) = level s p (suc n)

-- a configuration, if a test holds
abbrev pub when : Bool → Config → Option Config
when true c = Some c
when false c = None

-- the state past a space
abbrev pub past_space : State → State
past_space awaiting = awaiting
past_space (in_number n) = past_atom (constant n)
past_space (past_atom f) = past_atom f
past_space (past_caret f) = past_caret f
past_space (in_exponent f k) = past_power (power f k)
past_space (past_power f) = past_power f

-- the operand that was read, if an operator or the end may follow it
abbrev pub operand_of : State → Option Formula
operand_of awaiting = None
operand_of (in_number n) = Some (constant n)
operand_of (past_atom f) = Some f
operand_of (past_caret f) = None
operand_of (in_exponent f k) = Some (power f k)
operand_of (past_power f) = Some f

-- at *
abbrev pub star_move : Option Formula → Level → List Level → Option Config
star_move None l ls = None
star_move (Some f) l ls = Some (config awaiting (level (terms_of l) (times (term_with l f)) zero) ls)

-- at + or -, past an operand
abbrev pub sum_move : Option Formula → (Formula → Terms) → Level → List Level → Option Config
sum_move None k l ls = None
sum_move (Some f) k l ls = Some (config awaiting (level (k (formula_with l f)) no_factors zero) ls)

-- at -, which is a sign where an operand is to come
abbrev pub minus_move : State → Level → List Level → Option Config
minus_move awaiting l ls = Some (config awaiting (once_negated l) ls)
minus_move (in_number n) l ls = sum_move (Some (constant n)) minus l ls
minus_move (past_atom f) l ls = sum_move (Some f) minus l ls
minus_move (past_caret f) l ls = None
minus_move (in_exponent f k) l ls = sum_move (Some (power f k)) minus l ls
minus_move (past_power f) l ls = sum_move (Some f) minus l ls

-- at )
abbrev pub close_move : Option Formula → Level → List Level → Option Config
close_move None l ls = None
close_move (Some f) l [] = None
close_move (Some f) l (m ∷ ls) = Some (config (past_atom (formula_with l f)) m ls)

-- at (
abbrev pub open_move : State → Level → List Level → Option Config
open_move awaiting l ls = when (nat_lt (length ls) max_open) (config awaiting empty (l ∷ ls))
open_move (in_number n) l ls = None
open_move (past_atom f) l ls = None
open_move (past_caret f) l ls = None
open_move (in_exponent f k) l ls = None
open_move (past_power f) l ls = None

-- at ^
abbrev pub caret_move : State → Level → List Level → Option Config
caret_move awaiting l ls = None
caret_move (in_number n) l ls = Some (config (past_caret (constant n)) l ls)
caret_move (past_atom f) l ls = Some (config (past_caret f) l ls)
caret_move (past_caret f) l ls = None
caret_move (in_exponent f k) l ls = None
caret_move (past_power f) l ls = None

-- at letter i
abbrev pub letter_move : ℕ → State → Level → List Level → Option Config
letter_move i awaiting l ls = Some (config (past_atom (letter i)) l ls)
letter_move i (in_number n) l ls = None
letter_move i (past_atom f) l ls = None
letter_move i (past_caret f) l ls = None
letter_move i (in_exponent f k) l ls = None
letter_move i (past_power f) l ls = None

-- at digit d
abbrev pub digit_move : ℕ → State → Level → List Level → Option Config
digit_move d awaiting l ls = Some (config (in_number d) l ls)
digit_move d (in_number n) l ls = when (nat_lt 0 n && nat_lt (10 * n + d) (2 ^ 32)) (config (in_number (10 * n + d)) l ls)
digit_move d (past_atom f) l ls = None
digit_move d (past_caret f) l ls = when (nat_lt 0 d) (config (in_exponent f d) l ls)
digit_move d (in_exponent f k) l ls = when (nat_le (10 * k + d) max_exponent) (config (in_exponent f (10 * k + d)) l ls)
digit_move d (past_power f) l ls = None

-- at a byte of any class: the next configuration, or none
abbrev pub move : Class → State → Level → List Level → Option Config
move Space s l ls = Some (config (past_space s) l ls)
move Plus s l ls = sum_move (operand_of s) plus l ls
move Minus s l ls = minus_move s l ls
move Star s l ls = star_move (operand_of s) l ls
move Caret s l ls = caret_move s l ls
move Open s l ls = open_move s l ls
move Close s l ls = close_move (operand_of s) l ls
move (Letter i) s l ls = letter_move i s l ls
move (Digit d) s l ls = digit_move d s l ls
move Other s l ls = None

-- at a byte
abbrev pub step : Config → ℕ → Option Config
step (config s l ls) b = move (classify b) s l ls

-- before a text
abbrev pub start : Config
start = config awaiting empty []

-- the configuration after a text, if it is not refused on the way
abbrev pub walk : Option Config → List ℕ → Option Config
walk o [] = o
walk None (b ∷ t) = None
walk (Some c) (b ∷ t) = walk (step c b) t

-- the formula of a text that ends past an operand, if no parenthesis is open
abbrev pub at_end : Option Formula → Level → List Level → Option Formula
at_end None l ls = None
at_end (Some f) l [] = Some (formula_with l f)
at_end (Some f) l (m ∷ ls) = None

-- the formula of a text that ends in a configuration
abbrev pub finish : Option Config → Option Formula
finish None = None
finish (Some (config s l ls)) = at_end (operand_of s) l ls
