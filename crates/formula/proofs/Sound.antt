-- What the machine reads is spelled: after each byte, the text so far is a formula as far as it goes.
use Rattle.std.proofs.Common.{◌≡◌, ℕ, zero, suc, ◌+◌, ◌*◌, ◌^◌, ◌<◌, ◌≤◌, Bool, true, false, ◌&&◌, ltb, leb, List, [], ◌∷◌, length, Some, None, Option, refl, ap, ◌∙◌, subst, arith}
use Rattle.std.proofs.lemmas.Bool.Decides.{nat_tests}
use Rattle.formula.specs.Signs.{sign_space, sign_plus, sign_minus, sign_times, sign_caret, sign_open, sign_close, first_letter, first_digit}
use Rattle.formula.specs.Limits.{max_open, max_exponent}
use Rattle.formula.specs.declared.class.Class.{Class}
use Rattle.formula.specs.declared.class.Class.TheVariants.{Space, Plus, Minus, Star, Caret, Open, Close, Letter, Digit, Other}
use Rattle.formula.specs.Classes.{classify}
use Rattle.formula.specs.Formulas.{Formula}
use Rattle.formula.specs.Grammar.{Number, Spaces, Reads, Spells}
use Rattle.formula.specs.Formulas.Formula.{constant, power}
use Rattle.formula.specs.Grammar.Part.{formula, term, factor, atom}
use Rattle.formula.specs.Grammar.Number.{digit, more}
use Rattle.formula.specs.Grammar.Spaces.{none, space}
use Rattle.formula.specs.Grammar.Reads.{a_letter, a_number, in_parentheses, an_atom, a_power, a_negation, a_factor, a_product, a_term, a_sum, a_difference, space_before, space_after}
use Rattle.formula.specs.Machine.{Terms, Factors, Level, State, Config, added, term_with, terms_of, formula_with, when, past_space, operand_of, move, start, walk, at_end, finish, sum_move, star_move, close_move, minus_move, open_move, caret_move, letter_move, digit_move}
use Rattle.formula.specs.Machine.Terms.{no_terms, plus, minus}
use Rattle.formula.specs.Machine.Factors.{no_factors, times}
use Rattle.formula.specs.Machine.Level.{level}
use Rattle.formula.specs.Machine.State.{awaiting, in_number, past_atom, past_caret, in_exponent, past_power}
use Rattle.formula.specs.Machine.Config.{config}

-- where a formula, a term after what waits for it, or a factor after what waits for it, is to begin
data Stage : Type 0 where
  at_formula : Stage
  at_term : Terms → Stage
  at_factor : Level → Stage

data At (s : List ℕ) : Stage → List Level → List ℕ → Type 0 where
  top : At s at_formula [] s
  open_at : {l : Level} {ls : List Level} {r : List ℕ} → length ls < max_open → At s (at_factor l) ls (sign_open ∷ r) → At s at_formula (l ∷ ls) r
  term_at : {ls : List Level} {r : List ℕ} → At s at_formula ls r → At s (at_term no_terms) ls r
  plus_at : {f : Formula} {ls : List Level} {r t : List ℕ} → At s at_formula ls r → Reads formula (length ls) f r (sign_plus ∷ t) → At s (at_term (plus f)) ls t
  less_at : {f : Formula} {ls : List Level} {r t : List ℕ} → At s at_formula ls r → Reads formula (length ls) f r (sign_minus ∷ t) → At s (at_term (minus f)) ls t
  factor_at : {a : Terms} {ls : List Level} {r : List ℕ} → At s (at_term a) ls r → At s (at_factor (level a no_factors zero)) ls r
  times_at : {a : Terms} {f : Formula} {ls : List Level} {r t : List ℕ} → At s (at_term a) ls r → Reads term (length ls) f r (sign_times ∷ t) → At s (at_factor (level a (times f) zero)) ls t
  minus_at : {a : Terms} {p : Factors} {n : ℕ} {ls : List Level} {r : List ℕ} → At s (at_factor (level a p n)) ls (sign_minus ∷ r) → At s (at_factor (level a p (suc n))) ls r
  space_at : {l : Level} {ls : List Level} {r : List ℕ} → At s (at_factor l) ls (sign_space ∷ r) → At s (at_factor l) ls r

close_factor : {s : List ℕ} {f : Formula} {t : List ℕ} {l : Level} {ls : List Level} {r : List ℕ} → At s (at_factor l) ls r → Reads factor (length ls) f r t → (u : List ℕ) × At s (at_term (terms_of l)) ls u × Reads term (length ls) (term_with l f) u t
close_factor (factor_at {r = r} z) x = (r, z, a_factor x)
close_factor (times_at {r = r} z y) x = (r, z, a_product y x)
close_factor (minus_at z) x = close_factor z (a_negation x)
close_factor (space_at z) x = close_factor z (space_before x)

close_term : {s : List ℕ} {f : Formula} {t : List ℕ} {a : Terms} {ls : List Level} {r : List ℕ} → At s (at_term a) ls r → Reads term (length ls) f r t → (u : List ℕ) × At s at_formula ls u × Reads formula (length ls) (added a f) u t
close_term (term_at {r = r} z) x = (r, z, a_term x)
close_term (plus_at {r = r} z y) x = (r, z, a_sum y x)
close_term (less_at {r = r} z y) x = (r, z, a_difference y x)

close_formula : {s : List ℕ} {f : Formula} {t : List ℕ} {l : Level} {ls : List Level} {r : List ℕ} → At s (at_factor l) ls r → Reads factor (length ls) f r t → (u : List ℕ) × At s at_formula ls u × Reads formula (length ls) (formula_with l f) u t
close_formula z x = let (u, y, w) = close_factor z x in close_term y w

close_parens : {s : List ℕ} {f : Formula} {t : List ℕ} {l : Level} {ls : List Level} {r : List ℕ} → At s at_formula (l ∷ ls) r → Reads formula (suc (length ls)) f r (sign_close ∷ t) → (u : List ℕ) × At s (at_factor l) ls u × Reads atom (length ls) f u t
close_parens (open_at {r = r} h z) x = (sign_open ∷ r, z, in_parentheses h x)

close_text : {s : List ℕ} {f : Formula} {r : List ℕ} → At s at_formula [] r → Reads formula 0 f r [] → Spells f s
close_text top x = x

-- a configuration, where t is what is left of the text s
data Sofar (s : List ℕ) : State → Level → List Level → List ℕ → Type 0 where
  s_wait : {l : Level} {ls : List Level} {t : List ℕ} → At s (at_factor l) ls t → Sofar s awaiting l ls t
  s_digits : {n : ℕ} {l : Level} {ls : List Level} {r t : List ℕ} → At s (at_factor l) ls r → Number n r t → n < 2 ^ 32 → Sofar s (in_number n) l ls t
  s_whole : {f : Formula} {l : Level} {ls : List Level} {r t : List ℕ} → At s (at_factor l) ls r → Reads atom (length ls) f r t → Sofar s (past_atom f) l ls t
  s_hat : {f : Formula} {l : Level} {ls : List Level} {r u t : List ℕ} → At s (at_factor l) ls r → Reads atom (length ls) f r (sign_caret ∷ u) → Spaces u t → Sofar s (past_caret f) l ls t
  s_index : {f : Formula} {k : ℕ} {l : Level} {ls : List Level} {r u v t : List ℕ} → At s (at_factor l) ls r → Reads atom (length ls) f r (sign_caret ∷ u) → Spaces u v → Number k v t → 0 < k → k ≤ max_exponent → Sofar s (in_exponent f k) l ls t
  s_ready : {f : Formula} {l : Level} {ls : List Level} {r t : List ℕ} → At s (at_factor l) ls r → Reads factor (length ls) f r t → Sofar s (past_power f) l ls t

abbrev Good : List ℕ → Config → List ℕ → Type 0
Good s (config st l ls) t = Sofar s st l ls t

abbrev All : {A : Type 0} → (A → Type 0) → Option A → Type 0
All P None = Unit {0}
All P (Some x) = P x

all_when : (P : Config → Type 0) (b : Bool) (c : Config) → (b ≡ true → P c) → All P (when b c)
all_when P true c h = h refl
all_when P false c h = tt

-- the factor that is there
abbrev Settled : List ℕ → Level → List Level → List ℕ → Formula → Type 0
Settled s l ls t f = (r : List ℕ) × At s (at_factor l) ls r × Reads factor (length ls) f r t

settled : {s : List ℕ} {st : State} {l : Level} {ls : List Level} {t : List ℕ} → Sofar s st l ls t → All (Settled s l ls t) (operand_of st)
settled (s_wait z) = tt
settled (s_digits {r = r} z x h) = (r, z, an_atom (a_number x h))
settled (s_whole {r = r} z x) = (r, z, an_atom x)
settled (s_hat z x y) = tt
settled (s_index {r = r} z x y k p m) = (r, z, a_power x y k p m)
settled (s_ready {r = r} z x) = (r, z, x)

on_space : {s : List ℕ} {st : State} {l : Level} {ls : List Level} (t : List ℕ) → Sofar s st l ls (sign_space ∷ t) → Sofar s (past_space st) l ls t
on_space t (s_wait z) = s_wait (space_at z)
on_space t (s_digits z x h) = s_whole z (space_after (a_number x h))
on_space t (s_whole z x) = s_whole z (space_after x)
on_space t (s_hat z x y) = s_hat z x (space y)
on_space t (s_index z x y k p m) = s_ready z (space_after (a_power x y k p m))
on_space t (s_ready z x) = s_ready z (space_after x)

module _ (s t : List ℕ) (l : Level) (ls : List Level) where
  on_star : (o : Option Formula) → All (Settled s l ls (sign_times ∷ t)) o → All (λ c. Good s c t) (star_move o l ls)
  on_star None h = tt
  on_star (Some f) h = let (u, z, x) = close_factor h.1 h.2 in s_wait (times_at z x)

  on_plus : (o : Option Formula) → All (Settled s l ls (sign_plus ∷ t)) o → All (λ c. Good s c t) (sum_move o plus l ls)
  on_plus None h = tt
  on_plus (Some f) h = let (u, z, x) = close_formula h.1 h.2 in s_wait (factor_at (plus_at z x))

  on_less : (f : Formula) → Settled s l ls (sign_minus ∷ t) f → All (λ c. Good s c t) (sum_move (Some f) minus l ls)
  on_less f h = let (u, z, x) = close_formula h.1 h.2 in s_wait (factor_at (less_at z x))

on_minus : (s t : List ℕ) (st : State) (l : Level) (ls : List Level) → Sofar s st l ls (sign_minus ∷ t) → All (λ c. Good s c t) (minus_move st l ls)
on_minus s t awaiting (level a p n) ls (s_wait z) = s_wait (minus_at z)
on_minus s t (in_number n) l ls x = on_less s t l ls _ (settled x)
on_minus s t (past_atom f) l ls x = on_less s t l ls _ (settled x)
on_minus s t (past_caret f) l ls x = tt
on_minus s t (in_exponent f k) l ls x = on_less s t l ls _ (settled x)
on_minus s t (past_power f) l ls x = on_less s t l ls _ (settled x)

on_close : (s t : List ℕ) (l : Level) (ls : List Level) (o : Option Formula) → All (Settled s l ls (sign_close ∷ t)) o → All (λ c. Good s c t) (close_move o l ls)
on_close s t l ls None h = tt
on_close s t l [] (Some f) h = tt
on_close s t l (m ∷ ls) (Some f) h =
    let (u, z, x) = close_formula h.1 h.2 in
    let (u', z', x') = close_parens z x in
    s_whole z' x'

on_open : (s t : List ℕ) (st : State) (l : Level) (ls : List Level) → Sofar s st l ls (sign_open ∷ t) → All (λ c. Good s c t) (open_move st l ls)
on_open s t awaiting l ls (s_wait z) = all_when _ (ltb (length ls) max_open) _ (λ e. let h : length ls < max_open = grind (arith, nat_tests) in s_wait (factor_at (term_at (open_at h z))))
on_open s t (in_number n) l ls x = tt
on_open s t (past_atom f) l ls x = tt
on_open s t (past_caret f) l ls x = tt
on_open s t (in_exponent f k) l ls x = tt
on_open s t (past_power f) l ls x = tt

on_caret : (s t : List ℕ) (st : State) (l : Level) (ls : List Level) → Sofar s st l ls (sign_caret ∷ t) → All (λ c. Good s c t) (caret_move st l ls)
on_caret s t awaiting l ls x = tt
on_caret s t (in_number n) l ls (s_digits z x h) = s_hat z (a_number x h) none
on_caret s t (past_atom f) l ls (s_whole z x) = s_hat z x none
on_caret s t (past_caret f) l ls x = tt
on_caret s t (in_exponent f k) l ls x = tt
on_caret s t (past_power f) l ls x = tt

on_name : (s t : List ℕ) (i : ℕ) → i < 16 → (st : State) (l : Level) (ls : List Level) → Sofar s st l ls ((first_letter + i) ∷ t) → All (λ c. Good s c t) (letter_move i st l ls)
on_name s t i h awaiting l ls (s_wait z) = s_whole z (a_letter i h)
on_name s t i h (in_number n) l ls x = tt
on_name s t i h (past_atom f) l ls x = tt
on_name s t i h (past_caret f) l ls x = tt
on_name s t i h (in_exponent f k) l ls x = tt
on_name s t i h (past_power f) l ls x = tt

on_digit : (s t : List ℕ) (d : ℕ) → d < 10 → (st : State) (l : Level) (ls : List Level) → Sofar s st l ls ((first_digit + d) ∷ t) → All (λ c. Good s c t) (digit_move d st l ls)
on_digit s t d h awaiting l ls (s_wait z) = s_digits z (digit d h) (omega arith)
on_digit s t d h (in_number n) l ls (s_digits z x small) = all_when _ (ltb 0 n && ltb (10 * n + d) (2 ^ 32)) _ (λ e.
    let pos : 0 < n = grind (arith, nat_tests) in
    let fits : 10 * n + d < 2 ^ 32 = grind (arith, nat_tests) in
    s_digits z (more d x pos h) fits)
on_digit s t d h (past_atom f) l ls x = tt
on_digit s t d h (past_caret f) l ls (s_hat z x y) = all_when _ (ltb 0 d) _ (λ e.
    let pos : 0 < d = grind (arith, nat_tests) in
    s_index z x y (digit d h) pos (omega arith))
on_digit s t d h (in_exponent f k) l ls (s_index z x y w p m) = all_when _ (leb (10 * k + d) max_exponent) _ (λ e.
    let most : 10 * k + d ≤ max_exponent = grind (arith, nat_tests) in
    s_index z x y (more d w p h) (omega arith) most)
on_digit s t d h (past_power f) l ls x = tt

-- what a class says of the byte
abbrev Is : Class → ℕ → Type 0
Is Space b = b ≡ sign_space
Is Plus b = b ≡ sign_plus
Is Minus b = b ≡ sign_minus
Is Star b = b ≡ sign_times
Is Caret b = b ≡ sign_caret
Is Open b = b ≡ sign_open
Is Close b = b ≡ sign_close
Is (Letter i) b = (b ≡ first_letter + i) × (i < 16)
Is (Digit d) b = (b ≡ first_digit + d) × (d < 10)
Is Other b = Unit {0}

is : (b : ℕ) (k : Class) → classify b ≡ k → Is k b
is b Space e = grind (arith, nat_tests)
is b Plus e = grind (arith, nat_tests)
is b Minus e = grind (arith, nat_tests)
is b Star e = grind (arith, nat_tests)
is b Caret e = grind (arith, nat_tests)
is b Open e = grind (arith, nat_tests)
is b Close e = grind (arith, nat_tests)
is b (Letter i) e = (grind (arith, nat_tests), grind (arith, nat_tests))
is b (Digit d) e = (grind (arith, nat_tests), grind (arith, nat_tests))
is b Other e = tt

-- the byte that a class names
named : {s t : List ℕ} {b c : ℕ} {st : State} {l : Level} {ls : List Level} → b ≡ c → Sofar s st l ls (b ∷ t) → Sofar s st l ls (c ∷ t)
named {s} {t} {st = st} {l = l} {ls = ls} e x = subst (λ y. Sofar s st l ls (y ∷ t)) e x

sound_move : (s t : List ℕ) (b : ℕ) (k : Class) → Is k b → (st : State) (l : Level) (ls : List Level) → Sofar s st l ls (b ∷ t) → All (λ c. Good s c t) (move k st l ls)
sound_move s t b Space e st l ls x = on_space t (named e x)
sound_move s t b Plus e st l ls x = on_plus s t l ls (operand_of st) (settled (named e x))
sound_move s t b Minus e st l ls x = on_minus s t st l ls (named e x)
sound_move s t b Star e st l ls x = on_star s t l ls (operand_of st) (settled (named e x))
sound_move s t b Caret e st l ls x = on_caret s t st l ls (named e x)
sound_move s t b Open e st l ls x = on_open s t st l ls (named e x)
sound_move s t b Close e st l ls x = on_close s t l ls (operand_of st) (settled (named e x))
sound_move s t b (Letter i) e st l ls x = on_name s t i e.1 st l ls (named e.0 x)
sound_move s t b (Digit d) e st l ls x = on_digit s t d e.1 st l ls (named e.0 x)
sound_move s t b Other e st l ls x = tt

sound_walk : (s : List ℕ) (o : Option Config) (t : List ℕ) → All (λ c. Good s c t) o → All (λ c. Good s c []) (walk o t)
sound_walk s o [] h = h
sound_walk s None (b ∷ t) h = tt
sound_walk s (Some (config st l ls)) (b ∷ t) h = sound_walk s (move (classify b) st l ls) t (sound_move s t b (classify b) (is b (classify b) refl) st l ls h)

finished : (s : List ℕ) (l : Level) (ls : List Level) (o : Option Formula) → All (Settled s l ls []) o → All (λ f. Spells f s) (at_end o l ls)
finished s l ls None h = tt
finished s l [] (Some f) h = let (u, z, x) = close_formula h.1 h.2 in close_text z x
finished s l (m ∷ ls) (Some f) h = tt

finishes : (s : List ℕ) (o : Option Config) → All (λ c. Good s c []) o → All (λ f. Spells f s) (finish o)
finishes s None h = tt
finishes s (Some (config st l ls)) h = finished s l ls (operand_of st) (settled h)

pub sound : (f : Formula) (s : List ℕ) → finish (walk (Some start) s) ≡ Some f → Spells f s
sound f s e = subst (All (λ f. Spells f s)) e (finishes s (walk (Some start) s) (sound_walk s (Some start) s (s_wait (factor_at (term_at top)))))

-- every configuration can be brought to an end
closers : List Level → List ℕ
closers [] = []
closers (l ∷ ls) = sign_close ∷ closers ls

abbrev Ends : Option Config → Type 0
Ends o = (t : List ℕ) × (f : Formula) × (finish (walk o t) ≡ Some f)

ends_held : (st : State) (f : Formula) (l : Level) (ls : List Level) → operand_of st ≡ Some f → Ends (Some (config st l ls))
ends_held st f l [] e = ([], formula_with l f, ap (λ o. at_end o l []) e)
ends_held st f l (m ∷ ls) e =
    let (t, g, x) = ends_held (past_atom (formula_with l f)) (formula_with l f) m ls refl in
    (sign_close ∷ t, g, ap (λ o. finish (walk (close_move o l (m ∷ ls)) t)) e ∙ x)

pub ends : (c : Config) → Ends (Some c)
ends (config awaiting l ls) = let (t, g, x) = ends_held (in_number 0) (constant 0) l ls refl in (first_digit ∷ t, g, x)
ends (config (in_number n) l ls) = ends_held (in_number n) _ l ls refl
ends (config (past_atom f) l ls) = ends_held (past_atom f) _ l ls refl
ends (config (past_caret f) l ls) = let (t, g, x) = ends_held (in_exponent f 1) (power f 1) l ls refl in ((first_digit + 1) ∷ t, g, x)
ends (config (in_exponent f k) l ls) = ends_held (in_exponent f k) _ l ls refl
ends (config (past_power f) l ls) = ends_held (past_power f) _ l ls refl
