-- What printed lines spell.
use Rattle.std.specs.Prelude.{◌≡◌, ℕ, ◌≤◌, ◌↔◌, List, length}
use Rattle.diagram.specs.Lines.{line}
use Rattle.diagram.specs.Orders.{Proper}
use Rattle.domain.specs.Model.{Model}
use Rattle.formula.specs.Formulas.{Formula}
use Rattle.formula.specs.Grammar.{Spells}
use Rattle.formula.specs.Meaning.{meaning}
use Rattle.polynomial.specs.Coefficients.{coefficient}
use Rattle.polynomial.specs.Polynomials.{Poly}
use Rattle.polynomial.specs.Trees.{Tree, Reduced, Lawful, tree_degree, value}
use Rattle.printing.specs.Meant.{number_meant, letter_meant, Known}

-- the line of w and t spells a formula of codes and letters of the order, which means the polynomial of w and t
pub record Spelled {E : Type 0} (M : Model E) (ls : List ℕ) (w : E) (t : Tree E) : Type 0 where
  pub formula : Formula
  pub spelled : Spells formula (line M ls w t)
  pub known : Known M ls formula
  pub meant : meaning (Poly M.ring (length ls)) (number_meant M (length ls)) (letter_meant M ls) formula ≡ value M.ring (length ls) w t

-- each line of a lawful reference to a reduced entry up to degree 48
abbrev pub LinesSpell : {E : Type 0} → Model E → Type 0
LinesSpell {E} M =
    (ls : List ℕ) → Proper ls → (w : E) (t : Tree E) → Reduced M (length ls) t → Lawful M w t → tree_degree t ≤ 48 → Spelled M ls w t

-- two such lines are the same exactly when the polynomials have the same coefficient at every monomial
abbrev pub LinesTell : {E : Type 0} → Model E → Type 0
LinesTell {E} M =
    (ls : List ℕ) → Proper ls → (t u : Tree E) → Reduced M (length ls) t → Reduced M (length ls) u → tree_degree t ≤ 48 → tree_degree u ≤ 48
    → (v w : E) → Lawful M v t → Lawful M w u
    → (line M ls v t ≡ line M ls w u) ↔ ((e : List ℕ) → length e ≤ length ls → coefficient M.ring (length ls) (value M.ring (length ls) v t) e ≡ coefficient M.ring (length ls) (value M.ring (length ls) w u) e)
