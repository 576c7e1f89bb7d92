-- Reading a part of a text together with what it means.
use Rattle.std.proofs.Common.{◌≡◌, ℕ, suc, ◌<◌, List, ◌∷◌, length, sym, ap, ◌∙◌, ap₂}
use Rattle.domain.specs.Model.{Model}
use Rattle.domain.specs.Ring.{Ring, Laws}
use Rattle.formula.specs.Formulas.{Formula}
use Rattle.formula.specs.Formulas.Formula.{sum, product, negation}
use Rattle.formula.specs.Grammar.{Part, Reads}
use Rattle.formula.specs.Grammar.Part.{formula, term, factor, atom}
use Rattle.formula.specs.Grammar.Reads.{in_parentheses, an_atom, a_negation, a_factor, a_product, a_term, a_sum}
use Rattle.formula.specs.Limits.{max_open}
use Rattle.formula.specs.Meaning.{meaning}
use Rattle.formula.specs.Signs.{sign_open, sign_close, sign_times, sign_plus, sign_minus}
use Rattle.polynomial.specs.Polynomials.{Polynomial, Poly}
use Rattle.polynomial.proofs.Rings.{zero-add}
use Rattle.printing.specs.Meant.{number_meant, letter_meant, Known}

-- the ring of polynomials in the letters of an order
abbrev polynomials : {E : Type 0} (M : Model E) (ls : List ℕ) → Ring (Polynomial E (length ls))
polynomials M ls = Poly M.ring (length ls)

-- inside d open parentheses, s begins with a part p that means a; t is the rest
pub record Reading {E : Type 0} (M : Model E) (ls : List ℕ) (p : Part) (d : ℕ) (a : Polynomial E (length ls)) (s t : List ℕ) : Type 0 where
  pub spelled : Formula
  pub reads : Reads p d spelled s t
  pub known : Known M ls spelled
  pub means : meaning (polynomials M ls) (number_meant M (length ls)) (letter_meant M ls) spelled ≡ a

-- before a term that begins with t: nothing stands in front of it, which means zero, or a formula that means a, and +
pub data Before {E : Type 0} (M : Model E) (ls : List ℕ) (d : ℕ) (s : List ℕ) : Polynomial E (length ls) → List ℕ → Type 0 where
  first : Before M ls d s (polynomials M ls).zero s
  next : {a : Polynomial E (length ls)} {t : List ℕ} → Reading M ls formula d a s (sign_plus ∷ t) → Before M ls d s a t

module _ {E : Type 0} {M : Model E} {ls : List ℕ} where
  pub same : {p : Part} {d : ℕ} {a b : Polynomial E (length ls)} {s t : List ℕ} → a ≡ b → Reading M ls p d a s t → Reading M ls p d b s t
  same e r = record { spelled = r.spelled; reads = r.reads; known = r.known; means = r.means ∙ e }

  pub as_factor : {d : ℕ} {a : Polynomial E (length ls)} {s t : List ℕ} → Reading M ls atom d a s t → Reading M ls factor d a s t
  as_factor r = record { spelled = r.spelled; reads = an_atom r.reads; known = r.known; means = r.means }

  pub as_term : {d : ℕ} {a : Polynomial E (length ls)} {s t : List ℕ} → Reading M ls factor d a s t → Reading M ls term d a s t
  as_term r = record { spelled = r.spelled; reads = a_factor r.reads; known = r.known; means = r.means }

  pub negated : {d : ℕ} {a : Polynomial E (length ls)} {s t : List ℕ} → Reading M ls factor d a s t → Reading M ls factor d ((polynomials M ls).neg a) (sign_minus ∷ s) t
  negated r = record { spelled = negation r.spelled; reads = a_negation r.reads; known = r.known; means = ap (polynomials M ls).neg r.means }

  pub times : {d : ℕ} {a b : Polynomial E (length ls)} {s t u : List ℕ} → Reading M ls term d a s (sign_times ∷ u) → Reading M ls factor d b u t → Reading M ls term d ((polynomials M ls).mul a b) s t
  times q r = record { spelled = product q.spelled r.spelled; reads = a_product q.reads r.reads; known = (q.known, r.known); means = ap₂ (polynomials M ls).mul q.means r.means }

  pub enclosed : {d : ℕ} {a : Polynomial E (length ls)} {s t : List ℕ} → d < max_open → Reading M ls formula (suc d) a s (sign_close ∷ t) → Reading M ls factor d a (sign_open ∷ s) t
  enclosed h r = record { spelled = r.spelled; reads = an_atom (in_parentheses h r.reads); known = r.known; means = r.means }

  -- one term more
  pub plus : Laws (polynomials M ls) → {d : ℕ} {a b : Polynomial E (length ls)} {s t u : List ℕ} → Before M ls d s a u → Reading M ls term d b u t → Reading M ls formula d ((polynomials M ls).add a b) s t
  plus L {b = b} first r = record { spelled = r.spelled; reads = a_term r.reads; known = r.known; means = r.means ∙ sym (zero-add L b) }
  plus L (next q) r = record { spelled = sum q.spelled r.spelled; reads = a_sum q.reads r.reads; known = (q.known, r.known); means = ap₂ (polynomials M ls).add q.means r.means }
