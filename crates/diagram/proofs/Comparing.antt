-- Two references to one table.
use Rattle.std.proofs.Common.{◌≡◌, ℕ, List}
use Rattle.domain.specs.Model.{Model, Sound}
use Rattle.polynomial.proofs.Theorems.{canonical}
use Rattle.diagram.specs.Answering.{Agree}
use Rattle.diagram.specs.Places.{Falls}
use Rattle.diagram.specs.Tables.{tree, LawfulIn, Kept}
use Rattle.diagram.specs.declared.entry.Entry.{Entry}
use Rattle.diagram.specs.declared.entry.Reference.{Reference}
use Rattle.diagram.proofs.Numbering.{tree_inj, code_inj}

-- those that agree at every monomial are the same
pub agree_same : {E : Type 0} (M : Model E) (S : Sound M) (k : ℕ) (es : List Entry) → Kept M k es → Falls es → (f g : Reference) → LawfulIn M es f → LawfulIn M es g → Agree M k es f g → f ≡ g
agree_same M S k es K fall f g lf lg a =
    let e = (canonical M S k (tree M es f.entry) (tree M es g.entry) (K.reduced f.entry lf.inside) (K.reduced g.entry lg.inside) (M.value f.weight) (M.value g.weight) lf.lawful lg.lawful).0 a in
    let ew : f.weight ≡ g.weight = code_inj M S f.weight g.weight lf.coded lg.coded e.0 in
    let ee : f.entry ≡ g.entry = tree_inj M es fall K.distinct f.entry g.entry lf.inside lg.inside e.1 in
    λ i. record { weight = ew i; entry = ee i }
