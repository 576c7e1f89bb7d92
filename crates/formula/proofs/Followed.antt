-- What each turn of the reader keeps.
use Rattle.std.proofs.Common.{◌≡◌, ℕ, zero, suc, ◌+◌, ◌<◌, ◌≤◌, true, false, ltb, List, [], ◌∷◌, ◌++◌, length, Some, None, Option, sym, refl, ap, ◌∙◌, subst, arith}
use Rattle.std.proofs.lemmas.Bool.Decides.{nat_tests}
use Rattle.std.proofs.lemmas.Option.{none-some}
use Rattle.std.proofs.lemmas.List.{same_from_push, length_push}
use Rattle.formula.specs.Limits.{max_open}
use Rattle.formula.specs.declared.record.Record.{Record}
use Rattle.formula.specs.declared.record.Record.TheVariants.{Negation}
use Rattle.formula.specs.declared.state.State.{State as CodeState}
use Rattle.formula.specs.declared.state.State.TheVariants.{Operand, Atom, Caret}
use Rattle.formula.specs.declared.state.Sign.{Sign}
use Rattle.formula.specs.declared.state.Sign.TheVariants.{Plus, Minus}
use Rattle.formula.specs.declared.state.Level.{Level as CodeLevel}
use Rattle.formula.specs.declared.tape.Tape.{Tape}
use Rattle.formula.specs.declared.reader.Reader.{Reader}
use Rattle.formula.specs.Tapes as T
use Rattle.formula.specs.Tapes.{Wrote, Adds, NamesLast, last_number, settled, termed, wholed}
use Rattle.formula.specs.Formulas.{Formula}
use Rattle.formula.specs.Formulas.Formula.{constant, negation, power}
use Rattle.formula.specs.Machine.{Terms, Factors, Level, State, operand_of, negated, multiplied, added, term_with, terms_of, formula_with, empty, open_move, close_move, when, at_end}
use Rattle.formula.specs.Machine.Terms.{no_terms, plus, minus}
use Rattle.formula.specs.Machine.Factors.{no_factors, times}
use Rattle.formula.specs.Machine.Level.{level}
use Rattle.formula.specs.Machine.State.{awaiting, in_number, past_atom, past_caret, in_exponent, past_power}
use Rattle.formula.specs.Machine.Config.{config}
use Rattle.formula.specs.Follow.{Holds, Follows, Settled, Finished, Stepped, code_state, put, past_state, past_terms, past_factors, past_levels, frame, frames, pending, waiting, counted, joined_by}
use Rattle.formula.proofs.Counted.{Alike, wrote_alike, multiplied_alike, added_alike, counted_alike}

settled_is : (st : State) (f : Formula) (e : List Record) → operand_of st ≡ Some f → settled (past_state e st) (code_state st) ≡ put e f
settled_is awaiting f e v = absurd (none-some f v)
settled_is (in_number n) f e v = let w : constant n ≡ f = cc in ap (put e) w
settled_is (past_atom g) f e v = let w : g ≡ f = cc in ap (put e) w
settled_is (past_caret g) f e v = absurd (none-some f v)
settled_is (in_exponent g k) f e v = let w : power g k ≡ f = cc in ap (put e) w
settled_is (past_power g) f e v = let w : g ≡ f = cc in ap (put e) w

-- one negation before the others, or after them
negated_first : (e : List Record) (m : ℕ) → T.negated (T.negated e 1) m ≡ T.negated e (suc m)
negated_first e zero = refl
negated_first e (suc m) = ap (λ l. l ++ Negation (last_number l) ∷ []) (negated_first e m)

negated_is : (m : ℕ) (f : Formula) (e : List Record) → T.negated (put e f) m ≡ put e (negated m f)
negated_is zero f e = refl
negated_is (suc m) f e = sym (negated_first (put e f) m) ∙ negated_is m (negation f) e

multiplied_is : (p : Factors) (f : Formula) (e : List Record) → T.multiplied (put (past_factors e p) f) (waiting e p) ≡ put e (multiplied p f)
multiplied_is no_factors f e = refl
multiplied_is (times g) f e = refl

added_is : (a : Terms) (f : Formula) (e : List Record) → T.added (put (past_terms e a) f) (pending e a) ≡ put e (added a f)
added_is no_terms f e = refl
added_is (plus g) f e = refl
added_is (minus g) f e = refl

termed_is : (st : State) (f : Formula) (l : Level) (ls : List Level) → operand_of st ≡ Some f → Alike (termed (past_state (past_levels (l ∷ ls)) st) (code_state st) (frame (past_levels ls) l)) (put (past_terms (past_levels ls) (terms_of l)) (term_with l f))
termed_is st f (level a p m) ls v =
    let e : List Record = past_terms (past_levels ls) a in
    let s : List Record = settled (past_state (past_factors e p) st) (code_state st) in
    subst (Alike (T.multiplied (T.negated s (counted m)) (waiting e p)))
    (ap (λ x. T.multiplied (T.negated x m) (waiting e p)) (settled_is st f (past_factors e p) v)
    ∙ ap (λ x. T.multiplied x (waiting e p)) (negated_is m f (past_factors e p))
    ∙ multiplied_is p (negated m f) e)
    (multiplied_alike _ _ (waiting e p) (counted_alike s m))

wholed_is : (st : State) (f : Formula) (l : Level) (ls : List Level) → operand_of st ≡ Some f → Alike (wholed (past_state (past_levels (l ∷ ls)) st) (code_state st) (frame (past_levels ls) l)) (put (past_levels ls) (formula_with l f))
wholed_is st f (level a p m) ls v =
    let e : List Record = past_levels ls in
    subst (Alike (wholed (past_state (past_levels (level a p m ∷ ls)) st) (code_state st) (frame e (level a p m)))) (added_is a (multiplied p (negated m f)) e)
    (added_alike _ _ (pending e a) (termed_is st f (level a p m) ls v))

-- the tape after a term is closed, or a formula
after_term : (st : State) (f : Formula) (l : Level) (ls : List Level) (x : Reader) (t : Tape) → operand_of st ≡ Some f → Follows st l ls x → Adds x.tape t (λ e. termed e x.state x.level) → Wrote t (put (past_terms (past_levels ls) (terms_of l)) (term_with l f))
after_term st f l ls x t v w more =
    let e : List Record = past_state (past_levels (l ∷ ls)) st in
    wrote_alike t _ _ (subst (Wrote t) (λ i. termed e (w.state_is i) (w.holds.level_is i)) (more e w.holds.wrote)) (termed_is st f l ls v)

after_sum : (st : State) (f : Formula) (l : Level) (ls : List Level) (x : Reader) (t : Tape) → operand_of st ≡ Some f → Follows st l ls x → Adds x.tape t (λ e. wholed e x.state x.level) → Wrote t (put (past_levels ls) (formula_with l f))
after_sum st f l ls x t v w more =
    let e : List Record = past_state (past_levels (l ∷ ls)) st in
    wrote_alike t _ _ (subst (Wrote t) (λ i. wholed e (w.state_is i) (w.holds.level_is i)) (more e w.holds.wrote)) (wholed_is st f l ls v)

pub follow_times : (st : State) (f : Formula) (l : Level) (ls : List Level) (x y : Reader) (n : ℕ) → operand_of st ≡ Some f → Follows st l ls x → Adds x.tape y.tape (λ e. termed e x.state x.level) → NamesLast y.tape n → y.level ≡ record { sum = x.level.sum; product = Some n; negations = 0 } → y.outer ≡ x.outer → Holds (level (terms_of l) (times (term_with l f)) zero) ls (put (past_terms (past_levels ls) (terms_of l)) (term_with l f)) y
follow_times st f (level a p m) ls x y n v w more e lev out =
    let after = after_term st f (level a p m) ls x y.tape v w more in
    let at = e _ after in
    record {
      level_is = lev ∙ (λ i. record { sum = (w.holds.level_is i).sum; product = Some (at i); negations = 0 });
      outer_is = ap (λ o. o.items) out ∙ w.holds.outer_is;
      wrote = after;
    }

joined_pending : (s : Sign) (f : Formula) (e : List Record) → pending e (joined_by s f) ≡ Some (s, last_number (put e f))
joined_pending Plus f e = refl
joined_pending Minus f e = refl

joined_past : (s : Sign) (f : Formula) (e : List Record) → past_terms e (joined_by s f) ≡ put e f
joined_past Plus f e = refl
joined_past Minus f e = refl

pub follow_join : (st : State) (f : Formula) (l : Level) (ls : List Level) (s : Sign) (x y : Reader) (n : ℕ) → operand_of st ≡ Some f → Follows st l ls x → Adds x.tape y.tape (λ e. wholed e x.state x.level) → NamesLast y.tape n → y.level ≡ record { sum = Some (s, n); product = None; negations = 0 } → y.outer ≡ x.outer → Holds (level (joined_by s (formula_with l f)) no_factors zero) ls (past_terms (past_levels ls) (joined_by s (formula_with l f))) y
follow_join st f l ls s x y n v w more e lev out =
    let after = after_sum st f l ls x y.tape v w more in
    let at = e _ after in
    record {
      level_is = lev ∙ (λ i. record { sum = Some (s, at i); product = None; negations = 0 }) ∙ (λ i. record { sum = sym (joined_pending s (formula_with l f) (past_levels ls)) i; product = None; negations = 0 });
      outer_is = ap (λ o. o.items) out ∙ w.holds.outer_is;
      wrote = subst (Wrote y.tape) (sym (joined_past s (formula_with l f) (past_levels ls))) after;
    }

frames_length : (ls : List Level) → length (frames ls) ≡ length ls
frames_length [] = refl
frames_length (l ∷ ls) = length_push (frames ls) (frame (past_levels ls) l) ∙ ap (λ n. n + 1) (frames_length ls) ∙ (omega arith)

pub follow_open : (l : Level) (ls : List Level) (x y : Reader) → length x.outer.items < max_open → Follows awaiting l ls x → y.level ≡ record { sum = None; product = None; negations = 0 } → y.outer.items ≡ x.outer.items ++ x.level ∷ [] → y.tape ≡ x.tape → Stepped (open_move awaiting l ls) (Some Operand) y
follow_open l ls x y h w lev out tap =
    let deep = ap length w.holds.outer_is ∙ frames_length ls in
    let test : ltb (length ls) max_open ≡ true = grind (arith, nat_tests) in
    subst (λ b. Stepped (when b (config awaiting empty (l ∷ ls))) (Some Operand) y) (sym test) (
      refl,
      record {
        level_is = lev;
        outer_is = out ∙ (λ i. w.holds.outer_is i ++ w.holds.level_is i ∷ []);
        wrote = subst (λ t. Wrote t (past_levels (l ∷ ls))) (sym tap) w.holds.wrote;
      },
    )

pub follow_full : (l : Level) (ls : List Level) (x y : Reader) (r : Option CodeState) → max_open ≤ length x.outer.items → Follows awaiting l ls x → r ≡ None → Stepped (open_move awaiting l ls) r y
follow_full l ls x y r h w none =
    let deep = ap length w.holds.outer_is ∙ frames_length ls in
    let test : ltb (length ls) max_open ≡ false = grind (arith, nat_tests) in
    subst (λ o. Stepped (open_move awaiting l ls) o y) (sym none) (subst (λ b. Stepped (when b (config awaiting empty (l ∷ ls))) None y) (sym test) tt)

pub follow_close : (st : State) (f : Formula) (l : Level) (ls : List Level) (x y : Reader) (m : CodeLevel) → x.outer.items ≡ y.outer.items ++ m ∷ [] → operand_of st ≡ Some f → Follows st l ls x → Adds x.tape y.tape (λ e. wholed e x.state x.level) → y.level ≡ m → Stepped (close_move (Some f) l ls) (Some Atom) y
follow_close st f l [] x y m out v w more lev = absurd (omega (arith, ap length (sym out ∙ w.holds.outer_is), length_push y.outer.items m))
follow_close st f l (n ∷ ls) x y m out v w more lev =
    let split = same_from_push _ _ _ _ (sym out ∙ w.holds.outer_is) in (
      refl,
      record {
        level_is = lev ∙ split.1;
        outer_is = split.0;
        wrote = after_sum st f l (n ∷ ls) x y.tape v w more;
      },
    )

pub follow_settle : (st : State) (l : Level) (ls : List Level) (x y : Reader) → Follows st l ls x → Adds x.tape y.tape (λ e. settled e x.state) → y.level ≡ x.level → y.outer ≡ x.outer → Settled (operand_of st) l ls y
follow_settle st l ls x y w more lev out = go (operand_of st) refl
  where
    go : (o : Option Formula) → operand_of st ≡ o → Settled o l ls y
    go None v = tt
    go (Some f) v = record {
      level_is = lev ∙ w.holds.level_is;
      outer_is = ap (λ o. o.items) out ∙ w.holds.outer_is;
      wrote = subst (Wrote y.tape) (ap (settled (past_state (past_levels (l ∷ ls)) st)) w.state_is ∙ settled_is st f (past_levels (l ∷ ls)) v) (more _ w.holds.wrote);
    }

pub follow_finish : (st : State) (l : Level) (ls : List Level) (x : Reader) (t : Tape) → (x.state ≡ Operand → ⊥) → (x.state ≡ Caret → ⊥) → length x.outer.items ≡ 0 → Follows st l ls x → Adds x.tape t (λ e. wholed e x.state x.level) → Finished (at_end (operand_of st) l ls) (Some tt) t
follow_finish st l (m ∷ ls) x t a b d w more = absurd (omega (arith, ap length w.holds.outer_is, frames_length (m ∷ ls)))
follow_finish awaiting l [] x t a b d w more = absurd (a w.state_is)
follow_finish (in_number n) l [] x t a b d w more = after_sum (in_number n) _ l [] x t refl w more
follow_finish (past_atom f) l [] x t a b d w more = after_sum (past_atom f) _ l [] x t refl w more
follow_finish (past_caret f) l [] x t a b d w more = absurd (b w.state_is)
follow_finish (in_exponent f k) l [] x t a b d w more = after_sum (in_exponent f k) _ l [] x t refl w more
follow_finish (past_power f) l [] x t a b d w more = after_sum (past_power f) _ l [] x t refl w more
