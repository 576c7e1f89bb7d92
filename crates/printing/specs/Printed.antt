-- Lines that tables print.
use Rattle.std.specs.Prelude.{◌≡◌, ℕ, ◌≤◌, List, length}
use Rattle.domain.specs.declared.domain.Domain.{Ghosts}
use Rattle.polynomial.specs.Coefficients.{coefficient}
use Rattle.diagram.specs.Tables.{tree, of}
use Rattle.diagram.specs.Terms.{model_of, letters_of, letter_count, entries_of}
use Rattle.diagram.specs.declared.entry.Reference.{Reference}
use Rattle.diagram.specs.declared.table.Table.{Table}
use Rattle.printing.specs.Theorems.{Spelled}

module _ {D S : Type 0} {B : Ghosts D} where
  -- the line of f spells a formula that means its polynomial
  abbrev pub LineSpells : Table D S B → Reference → Type 0
  LineSpells t f = Spelled (model_of t) (letters_of t) ((model_of t).value f.weight) (tree (model_of t) (entries_of t) f.entry)

  -- two tables of one domain and one order
  pub record Alike (t u : Table D S B) : Type 0 where
    pub domain : model_of u ≡ model_of t
    pub order : letters_of u ≡ letters_of t

  -- f in the one and g in the other have the same coefficient at every monomial
  abbrev pub SamePolynomial : Table D S B → Reference → Table D S B → Reference → Type 0
  SamePolynomial t f u g =
      (e : List ℕ) → length e ≤ letter_count t
      → coefficient (model_of t).ring (letter_count t) (of (model_of t) (letter_count t) (entries_of t) f) e
      ≡ coefficient (model_of t).ring (letter_count t) (of (model_of t) (letter_count t) (entries_of u) g) e
