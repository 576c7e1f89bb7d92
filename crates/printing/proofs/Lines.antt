-- The theorems about printed lines.
use Rattle.std.proofs.Common.{◌≡◌, ℕ, ◌+◌, ◌*◌, ◌≤◌, [], length, sym, ap, ◌∙◌, subst, ap₂, arith}
use Rattle.std.proofs.lemmas.List.{append-nil}
use Rattle.domain.specs.Model.{Model, Sound}
use Rattle.formula.specs.Grammar.{Spells}
use Rattle.formula.specs.Meaning.{meaning}
use Rattle.formula.proofs.Places.{once}
use Rattle.polynomial.specs.Coefficients.{coefficient}
use Rattle.polynomial.specs.Polynomials.{Poly}
use Rattle.polynomial.specs.Trees.{Tree, leaf, node, From, tree_degree, value}
use Rattle.polynomial.proofs.Rings.{zero-add}
use Rattle.polynomial.proofs.Theorems.{ring_laws, mass_laws, canonical}
use Rattle.diagram.specs.Lines.{line}
use Rattle.printing.specs.Meant.{number_meant, letter_meant}
use Rattle.printing.specs.Theorems.{LinesSpell, LinesTell}
use Rattle.printing.proofs.Depths.{depth, depth_bound}
use Rattle.printing.proofs.Reading.{same}
use Rattle.printing.proofs.Reading.Before.{first}
use Rattle.printing.proofs.References.{reads}

from-first : {E : Type 0} (t : Tree E) → From 0 t
from-first leaf = tt
from-first (node x p m q n) = omega arith

pub lines_spell : {E : Type 0} (M : Model E) → Sound M → LinesSpell M
lines_spell M S ls proper w t r l h =
    let k : ℕ = length ls in
    let P = Poly M.ring k in
    let L = ring_laws M S k in
    let b : depth t + 0 ≤ 2 * tree_degree t + k = depth_bound M k t r 0 (from-first t) (omega arith) in
    let whole = same (zero-add L (value M.ring k w t)) (reads M S ls proper t r w ((mass_laws M S k).weight w t r l) 0 (omega arith) _ P.zero [] first) in
    record { formula = whole.spelled; spelled = subst (Spells whole.spelled) (append-nil (line M ls w t)) whole.reads; known = whole.known; meant = whole.means }

pub lines_tell : {E : Type 0} (M : Model E) → Sound M → LinesTell M
lines_tell M S ls proper t u r s dt du v w lv lw =
    let k : ℕ = length ls in
    let R = M.ring in
    let f = lines_spell M S ls proper v t r lv dt in
    let g = lines_spell M S ls proper w u s lw du in (
      λ e.
          let one : f.formula ≡ g.formula = once f.formula g.formula (line M ls w u) (subst (Spells f.formula) e f.spelled) g.spelled in
          let means : value R k v t ≡ value R k w u = sym f.meant ∙ (ap (meaning (Poly R k) (number_meant M k) (letter_meant M ls)) one ∙ g.meant) in
          λ i _. ap (λ p. coefficient R k p i) means,
      λ h. let is = (canonical M S k t u r s v w lv lw).0 h in ap₂ (line M ls) is.0 is.1,
    )
