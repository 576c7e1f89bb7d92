-- What a line asks: a domain, a function and its numbers, with white space between them.
use Rattle.std.specs.Prelude.{◌≡◌, ℕ, ◌<◌, List, [], ◌∷◌, ◌++◌, length, codes}
use Rattle.std.specs.Char.{is_whitespace, is_not_whitespace}
use Rattle.std.specs.Str.{NoCharPasses, EmptyOrStartsWithPassing}
use Rattle.domain.specs.declared.number.Number.{Number}
use Rattle.calc.specs.declared.asking.Query.{Query}
use Rattle.calc.specs.declared.asking.Query.TheVariants.{Code, Limit, Size, Negation, Sum, Product, Factor, Inverse}
use Rattle.calc.specs.declared.asking.Question.{Question}
use Rattle.calc.specs.Words.{domain_word, IsNumber}

-- the first word of a text, behind white space, and the rest, which is empty or goes on with white space
abbrev pub IsFirstWord : List ℕ → List ℕ → List ℕ → Type 0
IsFirstWord text word rest =
    (gap : List ℕ) × (text ≡ gap ++ (word ++ rest)) × (0 < length word) × NoCharPasses is_not_whitespace gap × NoCharPasses is_whitespace word
    × ((more : List ℕ) × EmptyOrStartsWithPassing is_whitespace rest more)

-- the first words of a text, and what follows them
abbrev pub AreFirstWords : List ℕ → List (List ℕ) → List ℕ → Type 0
AreFirstWords text [] rest = rest ≡ text
AreFirstWords text (word ∷ words) rest = (after : List ℕ) × IsFirstWord text word after × AreFirstWords after words rest

-- all words of a text
abbrev pub AreWords : List ℕ → List (List ℕ) → Type 0
AreWords text words = (rest : List ℕ) × AreFirstWords text words rest × NoCharPasses is_not_whitespace rest

-- a is the number that comes first in a text
abbrev pub IsFirstNumber : List ℕ → Number → List ℕ → Type 0
IsFirstNumber text a rest = (word : List ℕ) × IsFirstWord text word rest × IsNumber word a

-- a function of one number, and one of two
abbrev pub AsksOne : List ℕ → List (List ℕ) → Number → Type 0
AsksOne name words a = (x : List ℕ) × (words ≡ name ∷ x ∷ []) × IsNumber x a

abbrev pub AsksTwo : List ℕ → List (List ℕ) → Number → Number → Type 0
AsksTwo name words a b = (x : List ℕ) × (y : List ℕ) × (words ≡ name ∷ x ∷ y ∷ []) × IsNumber x a × IsNumber y b

abbrev pub AsksQuery : List (List ℕ) → Query → Type 0
AsksQuery words (Code a) = AsksOne (codes "code") words a
AsksQuery words Limit = words ≡ codes "limit" ∷ []
AsksQuery words (Size a) = AsksOne (codes "size") words a
AsksQuery words (Negation a) = AsksOne (codes "negation") words a
AsksQuery words (Sum a b) = AsksTwo (codes "sum") words a b
AsksQuery words (Product a b) = AsksTwo (codes "product") words a b
AsksQuery words (Factor a b) = AsksTwo (codes "factor") words a b
AsksQuery words (Inverse a) = AsksOne (codes "inverse") words a

-- the first words of a text ask the query
abbrev pub AsksFirst : List ℕ → Query → List ℕ → Type 0
AsksFirst text query rest = (words : List (List ℕ)) × AreFirstWords text words rest × AsksQuery words query

abbrev pub Asks : List ℕ → Question → Type 0
Asks line question = (words : List (List ℕ)) × AreWords line (domain_word question.domain ∷ words) × AsksQuery words question.query
