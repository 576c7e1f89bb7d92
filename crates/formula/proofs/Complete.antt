-- A formula that is spelled drives the machine.
use Rattle.std.proofs.Common.{◌≡◌, ℕ, zero, suc, ◌+◌, ◌*◌, ◌^◌, ◌<◌, ◌≤◌, true, ◌&&◌, ltb, leb, List, [], ◌∷◌, length, Some, Option, refl, ap, ◌∙◌, arith}
use Rattle.std.proofs.lemmas.Bool.Decides.{nat_tests}
use Rattle.formula.specs.Signs.{sign_space, first_letter, first_digit}
use Rattle.formula.specs.Limits.{max_open, max_exponent}
use Rattle.formula.specs.declared.class.Class.TheVariants.{Minus, Caret, Letter, Digit}
use Rattle.formula.specs.Classes.{classify}
use Rattle.formula.specs.Formulas.{Formula}
use Rattle.formula.specs.Grammar.{Number, Spaces, Reads, Part, Spells}
use Rattle.formula.specs.Formulas.Formula.{constant, letter, sum, difference, product, power}
use Rattle.formula.specs.Grammar.Part.{formula, term, factor, atom}
use Rattle.formula.specs.Grammar.Number.{digit, more}
use Rattle.formula.specs.Grammar.Spaces.{none, space}
use Rattle.formula.specs.Grammar.Reads.{a_letter, a_number, in_parentheses, an_atom, a_power, a_negation, a_factor, a_product, a_term, a_sum, a_difference, space_before, space_after}
use Rattle.formula.specs.Machine.{Terms, Factors, Level, State, Config, negated, multiplied, formula_with, empty, when, past_space, operand_of, move, start, walk, at_end, finish, sum_move, star_move, close_move}
use Rattle.formula.specs.Machine.Terms.{no_terms, plus, minus}
use Rattle.formula.specs.Machine.Factors.{no_factors, times}
use Rattle.formula.specs.Machine.Level.{level}
use Rattle.formula.specs.Machine.State.{awaiting, in_number, past_atom, past_caret, in_exponent, past_power}
use Rattle.formula.specs.Machine.Config.{config}

pub class_name : (i : ℕ) → i < 16 → classify (first_letter + i) ≡ Letter i
class_name i h = grind (arith, nat_tests)

pub class_digit : (d : ℕ) → d < 10 → classify (first_digit + d) ≡ Digit d
class_digit d h = grind (arith, nat_tests)

-- an operand that an exponent may follow, and one that any sign may follow
data Atomic : State → Formula → Type 0 where
  a_digits : {n : ℕ} → Atomic (in_number n) (constant n)
  a_whole : {f : Formula} → Atomic (past_atom f) f

pub data Holds : State → Formula → Type 0 where
  h_digits : {n : ℕ} → Holds (in_number n) (constant n)
  h_whole : {f : Formula} → Holds (past_atom f) f
  h_index : {f : Formula} {k : ℕ} → Holds (in_exponent f k) (power f k)
  h_ready : {f : Formula} → Holds (past_power f) f

holds : {st : State} {f : Formula} → Atomic st f → Holds st f
holds a_digits = h_digits
holds a_whole = h_whole

spaced_atomic : {st : State} {f : Formula} → Atomic st f → Atomic (past_space st) f
spaced_atomic a_digits = a_whole
spaced_atomic a_whole = a_whole

spaced_holds : {st : State} {f : Formula} → Holds st f → Holds (past_space st) f
spaced_holds h_digits = h_whole
spaced_holds h_whole = h_whole
spaced_holds h_index = h_ready
spaced_holds h_ready = h_ready

pub held : {st : State} {f : Formula} → Holds st f → operand_of st ≡ Some f
held h_digits = refl
held h_whole = refl
held h_index = refl
held h_ready = refl

less_moves : {st : State} {f : Formula} (l : Level) (ls : List Level) → Holds st f → move Minus st l ls ≡ sum_move (Some f) minus l ls
less_moves l ls h_digits = refl
less_moves l ls h_whole = refl
less_moves l ls h_index = refl
less_moves l ls h_ready = refl

hat_moves : {st : State} {f : Formula} (l : Level) (ls : List Level) → Atomic st f → move Caret st l ls ≡ Some (config (past_caret f) l ls)
hat_moves l ls a_digits = refl
hat_moves l ls a_whole = refl

abbrev from : State → Level → List Level → List ℕ → Option Config
from st l ls s = walk (Some (config st l ls)) s

number_goes : {n : ℕ} {s t : List ℕ} (l : Level) (ls : List Level) → Number n s t → n < 2 ^ 32 → from awaiting l ls s ≡ from (in_number n) l ls t
number_goes l ls (digit {t = t} d h) k = ap (λ c. walk (move c awaiting l ls) t) (class_digit d h)
number_goes l ls (more {n = n} {t = t} d r pos h) k =
    let test : ltb 0 n && ltb (10 * n + d) (2 ^ 32) ≡ true = grind (arith, nat_tests) in
    number_goes l ls r (omega arith) ∙ ap (λ c. walk (move c (in_number n) l ls) t) (class_digit d h) ∙ ap (λ b. walk (when b (config (in_number (10 * n + d)) l ls)) t) test

exponent_goes : {n : ℕ} {s t : List ℕ} (f : Formula) (l : Level) (ls : List Level) → Number n s t → 0 < n → n ≤ max_exponent → from (past_caret f) l ls s ≡ from (in_exponent f n) l ls t
exponent_goes f l ls (digit {t = t} d h) p k =
    let test : ltb 0 d ≡ true = grind (arith, nat_tests) in
    ap (λ c. walk (move c (past_caret f) l ls) t) (class_digit d h) ∙ ap (λ b. walk (when b (config (in_exponent f d) l ls)) t) test
exponent_goes f l ls (more {n = n} {t = t} d r pos h) p k =
    let test : leb (10 * n + d) max_exponent ≡ true = grind (arith, nat_tests) in
    exponent_goes f l ls r pos (omega arith) ∙ ap (λ c. walk (move c (in_exponent f n) l ls) t) (class_digit d h) ∙ ap (λ b. walk (when b (config (in_exponent f (10 * n + d)) l ls)) t) test

spaces_go : {s t : List ℕ} (f : Formula) (l : Level) (ls : List Level) → Spaces s t → from (past_caret f) l ls s ≡ from (past_caret f) l ls t
spaces_go f l ls none = refl
spaces_go f l ls (space r) = spaces_go f l ls r

-- what the machine does over a part that is read
abbrev Goes : Part → ℕ → Formula → List ℕ → List ℕ → Type 0
Goes formula d f s t = (ls : List Level) → length ls ≡ d → (st : State) × (l : Level) × (g : Formula) × Holds st g × (formula_with l g ≡ f) × (from awaiting empty ls s ≡ from st l ls t)
Goes term d f s t = (a : Terms) (ls : List Level) → length ls ≡ d → (st : State) × (p : Factors) × (m : ℕ) × (g : Formula) × Holds st g × (multiplied p (negated m g) ≡ f) × (from awaiting (level a no_factors zero) ls s ≡ from st (level a p m) ls t)
Goes factor d f s t = (a : Terms) (p : Factors) (n : ℕ) (ls : List Level) → length ls ≡ d → (st : State) × (m : ℕ) × (g : Formula) × Holds st g × (negated m g ≡ negated n f) × (from awaiting (level a p n) ls s ≡ from st (level a p m) ls t)
Goes atom d f s t = (l : Level) (ls : List Level) → length ls ≡ d → (st : State) × Atomic st f × (from awaiting l ls s ≡ from st l ls t)

goes_before : (p : Part) (d : ℕ) (f : Formula) (s t : List ℕ) → Goes p d f s t → Goes p d f (sign_space ∷ s) t
goes_before formula d f s t h = h
goes_before term d f s t h = h
goes_before factor d f s t h = h
goes_before atom d f s t h = h

goes_after : (p : Part) (d : ℕ) (f : Formula) (s t : List ℕ) → Goes p d f s (sign_space ∷ t) → Goes p d f s t
goes_after formula d f s t h = λ ls e. let (st, l, g, k, v, w) = h ls e in (past_space st, l, g, spaced_holds k, v, w)
goes_after term d f s t h = λ a ls e. let (st, p, m, g, k, v, w) = h a ls e in (past_space st, p, m, g, spaced_holds k, v, w)
goes_after factor d f s t h = λ a p n ls e. let (st, m, g, k, v, w) = h a p n ls e in (past_space st, m, g, spaced_holds k, v, w)
goes_after atom d f s t h = λ l ls e. let (st, k, w) = h l ls e in (past_space st, spaced_atomic k, w)

goes : {p : Part} {d : ℕ} {f : Formula} {s t : List ℕ} → Reads p d f s t → Goes p d f s t
goes (a_letter {t = t} i h) = λ l ls e. (past_atom (letter i), a_whole, ap (λ c. walk (move c awaiting l ls) t) (class_name i h))
goes (a_number {n = n} r h) = λ l ls e. (in_number n, a_digits, number_goes l ls r h)
goes (in_parentheses {d = d} {f = f} {s = s} {t = t} h r) = λ l ls e.
    let test : ltb (length ls) max_open ≡ true = grind (arith, nat_tests) in
    let (st, m, g, k, v, w) = goes r (l ∷ ls) (ap suc e) in
    (past_atom f, a_whole, ap (λ b. walk (when b (config awaiting empty (l ∷ ls))) s) test ∙ w ∙ ap (λ o. walk (close_move o m (l ∷ ls)) t) (held k) ∙ ap (λ x. from (past_atom x) l ls t) v)
goes (an_atom {f = f} r) = λ a p n ls e. let (st, k, w) = goes r (level a p n) ls e in (st, n, f, holds k, refl, w)
goes (a_power {k = k} {f = f} {u = u} r b x pos most) = λ a p n ls e.
    let (st, h, w) = goes r (level a p n) ls e in
    let l : Level = level a p n in
    (in_exponent f k, n, power f k, h_index, refl, w ∙ ap (λ o. walk o u) (hat_moves l ls h) ∙ spaces_go f l ls b ∙ exponent_goes f l ls x pos most)
goes (a_negation r) = λ a p n ls e. goes r a p (suc n) ls e
goes (a_factor r) = λ a ls e. let (st, m, g, k, v, w) = goes r a no_factors zero ls e in (st, no_factors, m, g, k, v, w)
goes (a_product {f = f} {u = u} q r) = λ a ls e.
    let (st, p, m, g, k, v, w) = goes q a ls e in
    let (st', m', g', k', v', w') = goes r a (times f) zero ls e in
    (st', times f, m', g', k', ap (product f) v', w ∙ ap (λ o. walk (star_move o (level a p m) ls) u) (held k) ∙ ap (λ x. from awaiting (level a (times x) zero) ls u) v ∙ w')
goes (a_term r) = λ ls e. let (st, p, m, g, k, v, w) = goes r no_terms ls e in (st, level no_terms p m, g, k, v, w)
goes (a_sum {f = f} {u = u} q r) = λ ls e.
    let (st, l, g, k, v, w) = goes q ls e in
    let (st', p', m', g', k', v', w') = goes r (plus f) ls e in
    (st', level (plus f) p' m', g', k', ap (sum f) v', w ∙ ap (λ o. walk (sum_move o plus l ls) u) (held k) ∙ ap (λ x. from awaiting (level (plus x) no_factors zero) ls u) v ∙ w')
goes (a_difference {f = f} {u = u} q r) = λ ls e.
    let (st, l, g, k, v, w) = goes q ls e in
    let (st', p', m', g', k', v', w') = goes r (minus f) ls e in
    (st', level (minus f) p' m', g', k', ap (difference f) v', w ∙ ap (λ o. walk o u) (less_moves l ls k) ∙ ap (λ x. from awaiting (level (minus x) no_factors zero) ls u) v ∙ w')
goes (space_before {p = p} {d = d} {f = f} {s = s} {t = t} r) = goes_before p d f s t (goes r)
goes (space_after {p = p} {d = d} {f = f} {s = s} {t = t} r) = goes_after p d f s t (goes r)

pub complete : (f : Formula) (s : List ℕ) → Spells f s → finish (walk (Some start) s) ≡ Some f
complete f s r =
    let (st, l, g, k, v, w) = goes r [] refl in
    ap finish w ∙ ap (λ o. at_end o l []) (held k) ∙ ap Some v
