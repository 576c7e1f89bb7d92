-- What the loop of `read` keeps, and what follows at its exits.
use Rattle.std.proofs.Common.{◌≡◌, ℕ, ◌+◌, ◌<◌, ◌≤◌, min, List, [], ◌∷◌, length, get_or, take, drop, Some, None, Option, sym, refl, ap, ◌∙◌, subst, arith, length-take, take-append-drop, take_all}
use Rattle.std.proofs.lemmas.List.{take_more}
use Rattle.formula.specs.Limits.{max_records}
use Rattle.formula.specs.declared.reader.Reader.{Reader}
use Rattle.formula.specs.declared.tape.Tape.{Tape}
use Rattle.formula.specs.declared.class.Class.{Class}
use Rattle.formula.specs.Classes.{classify}
use Rattle.formula.specs.Formulas.{Formula}
use Rattle.formula.specs.Grammar.{Spells}
use Rattle.formula.specs.Records.{records}
use Rattle.formula.proofs.Uncapped.{same_length, uncapped}
use Rattle.formula.specs.Machine.{Level, State, Config, empty, move, start, walk, finish, at_end, operand_of}
use Rattle.formula.specs.Machine.State.{awaiting}
use Rattle.formula.specs.Machine.Config.{config}
use Rattle.formula.specs.Follow.{Follows, Arrived, Finished, Steps, Ends, put}
use Rattle.formula.specs.Tapes.{Wrote}
use Rattle.formula.specs.Answer.{Starts, Broken}
use Rattle.formula.proofs.Places.{walk-++, starts, stops}
use Rattle.formula.proofs.Complete.{complete}
use Rattle.formula.proofs.Sound.{sound}

pub record Reading (text : List ℕ) (i : ℕ) (x : Reader) : Type 0 where
  pub st : State
  pub l : Level
  pub ls : List Level
  pub walked : walk (Some start) (take i text) ≡ Some (config st l ls)
  pub follows : Follows st l ls x

pub begins : (text : List ℕ) (x : Reader) → Follows awaiting empty [] x → Reading text 0 x
begins text x w = record { st = awaiting; l = empty; ls = []; walked = refl; follows = w }

-- the machine after one more byte
one_more : (text : List ℕ) (i : ℕ) (x : Reader) (r : Reading text i x) → i < length text → walk (Some start) (take (i + 1) text) ≡ move (classify (get_or text i 0)) r.st r.l r.ls
one_more text i x r h = ap (walk (Some start)) (take_more text i 0 h) ∙ walk-++ (Some start) (take i text) (get_or text i 0 ∷ []) ∙ ap (λ o. walk o (get_or text i 0 ∷ [])) r.walked

pub goes_on : (text : List ℕ) (i : ℕ) (x y : Reader) (r : Reading text i x) → i < length text → Arrived (move (classify (get_or text i 0)) r.st r.l r.ls) (Some tt) y → Reading text (i + 1) y
goes_on text i x y r h s = go (move (classify (get_or text i 0)) r.st r.l r.ls) (one_more text i x r h) s
  where
    go : (o : Option Config) → walk (Some start) (take (i + 1) text) ≡ o → Arrived o (Some tt) y → Reading text (i + 1) y
    go None e s = absurd s
    go (Some (config st l ls)) e s = record { st = st; l = l; ls = ls; walked = e; follows = s }

pub breaks : (text : List ℕ) (i : ℕ) (x y : Reader) (r : Reading text i x) → i < length text → Arrived (move (classify (get_or text i 0)) r.st r.l r.ls) None y → Broken text i
breaks text i x y r h s = go (move (classify (get_or text i 0)) r.st r.l r.ls) (one_more text i x r h) s
  where
    whole : (f : Formula) → Spells f text → Starts (take (i + 1) text)
    whole f p = (drop (i + 1) text, f, subst (Spells f) (sym (take-append-drop (i + 1) text)) p)

    go : (o : Option Config) → walk (Some start) (take (i + 1) text) ≡ o → Arrived o None y → Broken text i
    go None e s = record {
      no_formula = λ f p. stops _ e (whole f p);
      within = omega arith;
      starts = starts (take i text) _ r.walked;
      stops = λ _. stops _ e;
    }
    go (Some c) e s = absurd s

-- at the end of the text: the machine has read it all
all_walked : (text : List ℕ) (i : ℕ) (x : Reader) (r : Reading text i x) → length text ≤ i → walk (Some start) text ≡ Some (config r.st r.l r.ls)
all_walked text i x r h = ap (walk (Some start)) (sym (take_all i text h)) ∙ r.walked

pub unfinished : (text : List ℕ) (i : ℕ) (x : Reader) (t : Tape) (r : Reading text i x) → length text ≤ i → Finished (at_end (operand_of r.st) r.l r.ls) None t → Broken text (length text)
unfinished text i x t r h s =
    let at = all_walked text i x r h in
    go (at_end (operand_of r.st) r.l r.ls) (ap finish at) s
  where
    go : (o : Option Formula) → finish (walk (Some start) text) ≡ o → Finished o None t → Broken text (length text)
    go None e s = record {
      no_formula = λ f p. let q = complete f text p in cc;
      within = omega arith;
      starts = starts (take (length text) text) _ (ap (walk (Some start)) (take_all (length text) text (omega arith)) ∙ all_walked text i x r h);
      stops = λ lt. absurd (omega arith);
    }
    go (Some f) e s = absurd s

-- the text spells a formula, and the tape has its records
pub record Read (text : List ℕ) (t : Tape) : Type 0 where
  pub formula : Formula
  pub spelled : Spells formula text
  pub wrote : Wrote t (put [] formula)

pub finished : (text : List ℕ) (i : ℕ) (x : Reader) (t : Tape) (r : Reading text i x) → length text ≤ i → Finished (at_end (operand_of r.st) r.l r.ls) (Some tt) t → Read text t
finished text i x t r h s =
    let at = all_walked text i x r h in
    go (at_end (operand_of r.st) r.l r.ls) (ap finish at) s
  where
    go : (o : Option Formula) → finish (walk (Some start) text) ≡ o → Finished o (Some tt) t → Read text t
    go None e s = absurd s
    go (Some f) e s = record { formula = f; spelled = sound f text e; wrote = s }

-- how many records the tape has
pub long : (text : List ℕ) (t : Tape) (r : Read text t) → length t.records.items ≡ min (length (records r.formula)) (max_records + 1)
long text t r = omega (arith, ap length r.wrote.records_are, length-take (max_records + 1) (put [] r.formula), same_length r.formula [] [] refl)

-- a tape with room left has the formula's records
pub copied : (text : List ℕ) (t : Tape) (r : Read text t) → length t.records.items ≤ max_records → t.records.items ≡ records r.formula
copied text t r h =
    let size : length (put [] r.formula) ≤ max_records = omega (arith, long text t r, same_length r.formula [] [] refl) in
    r.wrote.records_are ∙ take_all (max_records + 1) (put [] r.formula) (omega arith) ∙ uncapped r.formula [] size

-- what `step` ensured, at the byte and the answer that came
pub stepped : (text : List ℕ) (i : ℕ) (x y : Reader) (r : Reading text i x) (k : Class) (o o' : Option (Unit {0})) → k ≡ classify (get_or text i 0) → o ≡ o' → Steps k x o y → Arrived (move (classify (get_or text i 0)) r.st r.l r.ls) o' y
stepped text i x y r k o o' e p h = subst (λ c. Arrived (move c r.st r.l r.ls) o' y) e (subst (λ c. Arrived (move k r.st r.l r.ls) c y) p (h r.st r.l r.ls r.follows))

pub ended : (text : List ℕ) (i : ℕ) (x y : Reader) (r : Reading text i x) (o o' : Option (Unit {0})) → o ≡ o' → Ends x o y → Finished (at_end (operand_of r.st) r.l r.ls) o' y.tape
ended text i x y r o o' p h = subst (λ c. Finished (at_end (operand_of r.st) r.l r.ls) c y.tape) p (h r.st r.l r.ls r.follows)
