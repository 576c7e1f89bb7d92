-- How the reader follows the automaton.
use Rattle.std.specs.Prelude.{◌≡◌, ℕ, ◌+◌, ◌*◌, ◌^◌, min, cond, nat_lt, List, [], ◌∷◌, ◌++◌, Some, None, Option}
use Rattle.formula.specs.declared.record.Record.{Record}
use Rattle.formula.specs.declared.record.Record.TheVariants.{Constant, Letter, Negation}
use Rattle.formula.specs.declared.state.State.{State as CodeState}
use Rattle.formula.specs.declared.state.State.TheVariants.{Operand, Number, Atom, Caret, Exponent, Power}
use Rattle.formula.specs.declared.state.Sign.{Sign}
use Rattle.formula.specs.declared.state.Sign.TheVariants.{Plus, Minus}
use Rattle.formula.specs.declared.state.Level.{Level as CodeLevel}
use Rattle.formula.specs.declared.class.Class.{Class}
use Rattle.formula.specs.declared.reader.Reader.{Reader}
use Rattle.formula.specs.declared.tape.Tape.{Tape}
use Rattle.formula.specs.Tapes.{Wrote, last_number, settled, multiplied, added}
use Rattle.formula.specs.Formulas.{Formula}
use Rattle.formula.specs.Formulas.Formula.{constant, letter, sum, difference, product, negation, power}
use Rattle.formula.specs.Machine.{Terms, Factors, Level, State, Config, move, digit_move, operand_of, at_end}
use Rattle.formula.specs.Machine.Terms.{no_terms, plus, minus}
use Rattle.formula.specs.Machine.Factors.{no_factors, times}
use Rattle.formula.specs.Machine.Level.{level}
use Rattle.formula.specs.Machine.State.{awaiting, in_number, past_atom, past_caret, in_exponent, past_power}
use Rattle.formula.specs.Machine.Config.{config}

-- the records of a formula after e, as the tape has them
abbrev pub put : List Record → Formula → List Record
put e (constant n) = e ++ Constant n ∷ []
put e (letter i) = e ++ Letter i ∷ []
put e (sum f g) = added (put (put e f) g) (Some (Plus, last_number (put e f)))
put e (difference f g) = added (put (put e f) g) (Some (Minus, last_number (put e f)))
put e (product f g) = multiplied (put (put e f) g) (Some (last_number (put e f)))
put e (negation f) = put e f ++ Negation (last_number (put e f)) ∷ []
put e (power f k) = settled (put e f) (Exponent k)

-- the reader's state for one of the automaton
abbrev pub code_state : State → CodeState
code_state awaiting = Operand
code_state (in_number n) = Number n
code_state (past_atom f) = Atom
code_state (past_caret f) = Caret
code_state (in_exponent f k) = Exponent k
code_state (past_power f) = Power

-- e, and the records that are written of the operand in a state
abbrev pub past_state : List Record → State → List Record
past_state e awaiting = e
past_state e (in_number n) = e
past_state e (past_atom f) = put e f
past_state e (past_caret f) = put e f
past_state e (in_exponent f k) = put e f
past_state e (past_power f) = put e f

-- e, and the records of the terms that wait
abbrev pub past_terms : List Record → Terms → List Record
past_terms e no_terms = e
past_terms e (plus f) = put e f
past_terms e (minus f) = put e f

-- e, and the records of the factors that wait
abbrev pub past_factors : List Record → Factors → List Record
past_factors e no_factors = e
past_factors e (times f) = put e f

-- e, and the records of all that waits in a level
abbrev pub past_level : List Record → Level → List Record
past_level e (level a p m) = past_factors (past_terms e a) p

-- the records of all that waits, the outermost level first
abbrev pub past_levels : List Level → List Record
past_levels [] = []
past_levels (l ∷ ls) = past_level (past_levels ls) l

-- the reader's form of the terms that wait, behind the records e
abbrev pub pending : List Record → Terms → Option (Sign × ℕ)
pending e no_terms = None
pending e (plus f) = Some (Plus, last_number (put e f))
pending e (minus f) = Some (Minus, last_number (put e f))

-- the reader's form of the factors that wait, behind the records e
abbrev pub waiting : List Record → Factors → Option ℕ
waiting e no_factors = None
waiting e (times f) = Some (last_number (put e f))

-- signs as the reader counts them: exact up to a number that is more than a flow has records
abbrev pub counted : ℕ → ℕ
counted m = min m 65535

-- the reader's form of a level, behind the records e
abbrev pub frame : List Record → Level → CodeLevel
frame e (level a p m) = record { sum = pending e a; product = waiting (past_terms e a) p; negations = counted m }

-- the reader's form of the outer levels, the outermost first
abbrev pub frames : List Level → List CodeLevel
frames [] = []
frames (l ∷ ls) = frames ls ++ frame (past_levels ls) l ∷ []

-- the reader x holds all that waits, and its tape the records e
pub record Holds (l : Level) (ls : List Level) (e : List Record) (x : Reader) : Type 0 where
  pub level_is : x.level ≡ frame (past_levels ls) l
  pub outer_is : x.outer.items ≡ frames ls
  pub wrote : Wrote x.tape e

-- the reader x stands where the automaton does, and its tape holds the records so far
pub record Follows (st : State) (l : Level) (ls : List Level) (x : Reader) : Type 0 where
  pub state_is : x.state ≡ code_state st
  pub holds : Holds l ls (past_state (past_levels (l ∷ ls)) st) x

-- the state s, and what the reader x holds, are those of a configuration
abbrev pub Reaches : Reader → Config → CodeState → Type 0
Reaches x (config st l ls) s = (s ≡ code_state st) × Holds l ls (past_state (past_levels (l ∷ ls)) st) x

-- the reader x stands at a configuration
abbrev pub StandsAt : Reader → Config → Unit {0} → Type 0
StandsAt x (config st l ls) u = Follows st l ls x

-- the tape t holds the records of a formula
abbrev pub HoldsFlow : Tape → Formula → Unit {0} → Type 0
HoldsFlow t f u = Wrote t (put [] f)

-- there are both, of which P holds, or neither
abbrev pub Matched : {A B : Type 0} → (A → B → Type 0) → Option A → Option B → Type 0
Matched P None None = Unit {0}
Matched P None (Some b) = ⊥
Matched P (Some a) None = ⊥
Matched P (Some a) (Some b) = P a b

-- the next state, if there is one, and what the reader x then holds
abbrev pub Stepped : Option Config → Option CodeState → Reader → Type 0
Stepped o r x = Matched (Reaches x) o r

-- whether there is a next configuration; then the reader x stands there
abbrev pub Arrived : Option Config → Option (Unit {0}) → Reader → Type 0
Arrived o r x = Matched (StandsAt x) o r

-- where there is an operand, it is written
abbrev pub Settled : Option Formula → Level → List Level → Reader → Type 0
Settled None l ls x = Unit {0}
Settled (Some f) l ls x = Holds l ls (put (past_levels (l ∷ ls)) f) x

-- whether there is a formula; then the tape t has its records
abbrev pub Finished : Option Formula → Option (Unit {0}) → Tape → Type 0
Finished o r t = Matched (HoldsFlow t) o r

-- the reader's form of a configuration's state
abbrev pub next_state : Option Config → Option CodeState
next_state None = None
next_state (Some (config st l ls)) = Some (code_state st)

-- how a term joins the terms before it
abbrev pub joined_by : Sign → Formula → Terms
joined_by Plus f = plus f
joined_by Minus f = minus f

-- the number that n and one more digit spell, if it is below 2 ^ 32
abbrev pub with_digit : ℕ → ℕ → Option ℕ
with_digit n d = cond (nat_lt (10 * n + d) (2 ^ 32)) (Some (10 * n + d)) None

-- What the reader's methods promise: x is the reader before a call, r its answer, y the reader behind it.

-- wherever the automaton stands, the reader moves as it does at a byte of a class
abbrev pub Moves : Class → Reader → Option CodeState → Reader → Type 0
Moves k x r y = (s : State) (l : Level) (ls : List Level) → Follows s l ls x → Stepped (move k s l ls) r y

-- the same, where the reader takes the next state
abbrev pub Steps : Class → Reader → Option (Unit {0}) → Reader → Type 0
Steps k x r y = (s : State) (l : Level) (ls : List Level) → Follows s l ls x → Arrived (move k s l ls) r y

-- in state s, the reader moves as `m` says
abbrev pub MovesFrom : State → (State → Level → List Level → Option Config) → Reader → Option CodeState → Reader → Type 0
MovesFrom s m x r y = (l : Level) (ls : List Level) → Follows s l ls x → Stepped (m s l ls) r y

-- past an operand, the reader moves as `m` says
abbrev pub MovesPast : (Option Formula → Level → List Level → Option Config) → Reader → Option CodeState → Reader → Type 0
MovesPast m x r y = (s : State) (f : Formula) (l : Level) (ls : List Level) → operand_of s ≡ Some f → Follows s l ls x → Stepped (m (Some f) l ls) r y

-- in state s, the answer is the automaton's state past a digit
abbrev pub MovesAtDigit : ℕ → State → Option CodeState → Type 0
MovesAtDigit d s r = (l : Level) (ls : List Level) → r ≡ next_state (digit_move d s l ls)

-- the operand that was read, if there is one, is written
abbrev pub Settles : Reader → Reader → Type 0
Settles x y = (s : State) (l : Level) (ls : List Level) → Follows s l ls x → Settled (operand_of s) l ls y

-- the text may end exactly where the automaton ends with a formula, whose records are then on the tape
abbrev pub Ends : Reader → Option (Unit {0}) → Reader → Type 0
Ends x r y = (s : State) (l : Level) (ls : List Level) → Follows s l ls x → Finished (at_end (operand_of s) l ls) r y.tape
