-- Each record of a formula that is spelled may stand at its place.
use Rattle.std.proofs.Common.{◌≡◌, ℕ, zero, suc, ◌+◌, ◌-◌, ◌<◌, ◌≤◌, List, [], ◌∷◌, ◌++◌, length, get_or, sym, refl, subst, inl, inr, arith}
use Rattle.std.proofs.lemmas.List.{length_push, get_or_append_left, get_or_push}
use Rattle.std.proofs.lemmas.Bool.{cases_lt}
use Rattle.formula.specs.declared.record.Record.{Record}
use Rattle.formula.specs.declared.record.Record.TheVariants.{Constant, Letter, Sum, Difference, Product, Negation}
use Rattle.formula.specs.Flow.{Formed}
use Rattle.formula.specs.Formulas.{Formula}
use Rattle.formula.specs.Formulas.Formula.{constant, letter, sum, difference, product, negation, power}
use Rattle.formula.specs.Grammar.{Part, Reads}
use Rattle.formula.specs.Grammar.Reads.{a_letter, a_number, in_parentheses, an_atom, a_power, a_negation, a_factor, a_product, a_term, a_sum, a_difference, space_before, space_after}
use Rattle.formula.specs.Records.{joined, products, written}
use Rattle.formula.specs.Theorems.{WellFormed}

-- each letter of the formula is one of the sixteen
abbrev Lettered : Formula → Type 0
Lettered (constant n) = Unit {0}
Lettered (letter i) = i < 16
Lettered (sum f g) = Lettered f × Lettered g
Lettered (difference f g) = Lettered f × Lettered g
Lettered (product f g) = Lettered f × Lettered g
Lettered (negation f) = Lettered f
Lettered (power f k) = Lettered f

lettered : {p : Part} {d : ℕ} {f : Formula} {s t : List ℕ} → Reads p d f s t → Lettered f
lettered (a_letter i h) = h
lettered (a_number n h) = tt
lettered (in_parentheses h r) = lettered r
lettered (an_atom r) = lettered r
lettered (a_power r b x pos most) = lettered r
lettered (a_negation r) = lettered r
lettered (a_factor r) = lettered r
lettered (a_product q r) = (lettered q, lettered r)
lettered (a_term r) = lettered r
lettered (a_sum q r) = (lettered q, lettered r)
lettered (a_difference q r) = (lettered q, lettered r)
lettered (space_before r) = lettered r
lettered (space_after r) = lettered r

abbrev AllFormed : List Record → Type 0
AllFormed e = (place : ℕ) (d : Record) → place < length e → Formed place (get_or e place d)

none_formed : AllFormed []
none_formed place d h = absurd (omega arith)

-- one more record
formed-push : (e : List Record) (x : Record) → AllFormed e → Formed (length e) x → AllFormed (e ++ x ∷ [])
formed-push e x all here place d h =
    elim (cases_lt place (length e)) [
      | inl lt ↦ subst (Formed place) (sym (get_or_append_left e (x ∷ []) d place lt)) (all place d lt)
      | inr ge ↦
          let at : length e ≡ place = omega (arith, length_push e x) in
          subst (λ k. Formed k (get_or (e ++ x ∷ []) k d)) at (subst (Formed (length e)) (sym (get_or_push e x d (length e) refl)) here)
    ]

-- records with the facts that an operator over the last of them needs
pub record SomeFormed (e : List Record) : Type 0 where
  pub some : 0 < length e
  pub all : AllFormed e

grown : (e : List Record) (x : Record) → AllFormed e → Formed (length e) x → SomeFormed (e ++ x ∷ [])
grown e x all here = record { some = omega (arith, length_push e x); all = formed-push e x all here }

products_sound : (b : ℕ) (e : List Record) (k : ℕ) → b < length e → SomeFormed e → SomeFormed (products b e k)
products_sound b e zero h s = s
products_sound b e (suc k) h s =
    let pos = s.some in
    products_sound b (e ++ Product (length e - 1) b ∷ []) k (omega (arith, length_push e (Product (length e - 1) b))) (grown e (Product (length e - 1) b) s.all (omega arith, h))

pub products_longer : (b : ℕ) (e : List Record) (k : ℕ) → length e ≤ length (products b e k)
products_longer b e zero = omega arith
products_longer b e (suc k) = omega (arith, products_longer b (e ++ Product (length e - 1) b ∷ []) k, length_push e (Product (length e - 1) b))

length_joined : (make : ℕ → ℕ → Record) (a e : List Record) → length (joined make a e) ≡ length e + 1
length_joined make a e = length_push e (make (length a - 1) (length e - 1))

pub longer : (f : Formula) (e : List Record) → length e ≤ length (written e f)
longer (constant n) e = omega (arith, length_push e (Constant n))
longer (letter i) e = omega (arith, length_push e (Letter i))
longer (sum f g) e = omega (arith, longer f e, longer g (written e f), length_joined Sum (written e f) (written (written e f) g))
longer (difference f g) e = omega (arith, longer f e, longer g (written e f), length_joined Difference (written e f) (written (written e f) g))
longer (product f g) e = omega (arith, longer f e, longer g (written e f), length_joined Product (written e f) (written (written e f) g))
longer (negation f) e = omega (arith, longer f e, length_push (written e f) (Negation (length (written e f) - 1)))
longer (power f k) e = omega (arith, longer f e, products_longer (length (written e f) - 1) (written e f) (k - 1))

-- a formula has a record
pub some_written : (f : Formula) (e : List Record) → 0 < length (written e f)
some_written (constant n) e = omega (arith, length_push e (Constant n))
some_written (letter i) e = omega (arith, length_push e (Letter i))
some_written (sum f g) e = omega (arith, length_joined Sum (written e f) (written (written e f) g))
some_written (difference f g) e = omega (arith, length_joined Difference (written e f) (written (written e f) g))
some_written (product f g) e = omega (arith, length_joined Product (written e f) (written (written e f) g))
some_written (negation f) e = omega (arith, length_push (written e f) (Negation (length (written e f) - 1)))
some_written (power f k) e = omega (arith, some_written f e, products_longer (length (written e f) - 1) (written e f) (k - 1))

sound : (f : Formula) (e : List Record) → Lettered f → AllFormed e → SomeFormed (written e f)
sound (constant n) e l all = grown e (Constant n) all tt
sound (letter i) e l all = grown e (Letter i) all l
sound (sum f g) e l all =
    let a = sound f e l.0 all in
    let b = sound g (written e f) l.1 a.all in
    grown (written (written e f) g) _ b.all (omega (arith, a.some, longer g (written e f)), omega (arith, b.some))
sound (difference f g) e l all =
    let a = sound f e l.0 all in
    let b = sound g (written e f) l.1 a.all in
    grown (written (written e f) g) _ b.all (omega (arith, a.some, longer g (written e f)), omega (arith, b.some))
sound (product f g) e l all =
    let a = sound f e l.0 all in
    let b = sound g (written e f) l.1 a.all in
    grown (written (written e f) g) _ b.all (omega (arith, a.some, longer g (written e f)), omega (arith, b.some))
sound (negation f) e l all =
    let a = sound f e l all in
    grown (written e f) _ a.all (omega (arith, a.some))
sound (power f k) e l all =
    let a = sound f e l all in
    products_sound (length (written e f) - 1) (written e f) (k - 1) (omega (arith, a.some)) a

pub well_formed : WellFormed
well_formed f text r = let s = sound f [] (lettered r) none_formed in (s.some, s.all)
