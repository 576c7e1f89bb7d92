-- Records as readable lines.
use Rattle.std.specs.Prelude.{ℕ, ◌+◌, ◌%◌, List, ◌++◌, codes, decimal}
use Rattle.std.proofs.Math.Utf8.{encode}
use Rattle.formula.specs.declared.record.Record.{Record}
use Rattle.formula.specs.declared.record.Record.TheVariants.{Constant, Letter, Sum, Difference, Product, Negation}
use Rattle.formula.specs.Signs.{first_letter}

-- the letter's sign; past p a letter has none, and what is shown means nothing
abbrev letter_sign : ℕ → List ℕ
letter_sign i = encode ((first_letter + i) % 256)

-- the two operands
abbrev operands : ℕ → ℕ → List ℕ
operands l r = decimal l ++ (codes " " ++ decimal r)

-- the kind, and what the record holds
abbrev pub line : Record → List ℕ
line (Constant n) = codes "constant " ++ decimal n
line (Letter i) = codes "letter " ++ letter_sign i
line (Sum l r) = codes "sum " ++ operands l r
line (Difference l r) = codes "difference " ++ operands l r
line (Product l r) = codes "product " ++ operands l r
line (Negation l) = codes "negation " ++ decimal l
