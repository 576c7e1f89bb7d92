-- The terms in which contracts speak of a table t: what the other files define over entries, for the domain, the letters
-- and the entries of t.
use Rattle.std.specs.Prelude.{◌≡◌, ℕ, ◌≤◌, List, [], ◌++◌, length, drop, Result, slice_index}
use Rattle.domain.specs.Model.{Model}
use Rattle.domain.specs.declared.domain.Domain.{Ghosts}
use Rattle.domain.specs.declared.fault.Fault.{Fault}
use Rattle.domain.specs.declared.fault.Fault.TheVariants.{Unlawful, NoRoom}
use Rattle.domain.specs.declared.number.Number.{Number}
use Rattle.polynomial.specs.Diagrams.{InDiagram}
use Rattle.polynomial.specs.Polynomials.{Polynomial, Poly, constant, difference, scaled}
use Rattle.polynomial.specs.Trees.{Tree, tree_mass, tree_degree}
use Rattle.diagram.specs.Answering.{StandsFor as StandsForOver, Agree as AgreeOver, Compared as ComparedOver, UnlawfulOf as UnlawfulOver}
use Rattle.diagram.specs.Checks.{Else, Never}
use Rattle.diagram.specs.Counting.{LeastCount as LeastCountOver}
use Rattle.diagram.specs.Filling.{Named as NamedAmong, Fits as FitsOver, Misfit as MisfitOver, Filled as FilledOver, BadFilling as BadFillingOver}
use Rattle.diagram.specs.Letters.{Lettered as LetteredOver, BadLetter as BadLetterOver, NoLetter as NoLetterOver}
use Rattle.diagram.specs.Lines.{entry_text, times_text, plus_text, line}
use Rattle.diagram.specs.Listed.{listed}
use Rattle.diagram.specs.Monomials.{CoefficientAt as CoefficientOver, BadMonomial as BadMonomialOver, Found as FoundOver}
use Rattle.diagram.specs.Nodes.{Moved as MovedOver, Interned as InternedOver, Joins as JoinsOver, Wanted as WantedOver, Joined as JoinedOver, Granted as GrantedOver, Denied as DeniedOver}
use Rattle.diagram.specs.Parts.{Top as TopOver, Cuts as CutsOver, Parted as PartedOver, Falling as FallingOver}
use Rattle.diagram.specs.Printing.{clipped}
use Rattle.diagram.specs.Products.{WorkingEntries, Multipliable as MultipliableOver, Scalable as ScalableOver, Ordered as OrderedOver, SmallProduct as SmallProductOver, BadProduct as BadProductOver}
use Rattle.diagram.specs.Stores.{items}
use Rattle.diagram.specs.Sums.{Addable as AddableOver, SmallSum as SmallSumOver, BadSum as BadSumOver}
use Rattle.diagram.specs.Tables.{tree, of, mass_of as mass_over, LightIn, LawfulIn, Kept as KeptOver, ShallowOver}
use Rattle.diagram.specs.declared.entry.Edge.{Edge}
use Rattle.diagram.specs.declared.entry.Entry.{Entry}
use Rattle.diagram.specs.declared.entry.Reference.{Reference}
use Rattle.diagram.specs.declared.comparison.Comparison.{Comparison}
use Rattle.diagram.specs.declared.table.Table.{Table}

module _ {D S : Type 0} {B : Ghosts D} where
  -- what the table's domain means
  abbrev pub model_of : Table D S B → Model B.carrier
  model_of t = B.model t.domain

  -- the letters of its order, the highest first, and their number
  abbrev pub letters_of : Table D S B → List ℕ
  letters_of t = listed t.order

  abbrev pub letter_count : Table D S B → ℕ
  letter_count t = length (letters_of t)

  -- the entries in the order of their numbers, the first being number 1, and how many there may be
  abbrev pub entries_of : Table D S B → List Entry
  entries_of t = items t.store

  abbrev pub capacity_of : Table D S B → ℕ
  capacity_of t = t.store.capacity

  -- a table from its making on
  abbrev pub Kept : Table D S B → Type 0
  Kept t = KeptOver (model_of t) (letter_count t) (entries_of t)

  -- no entry has a degree over that of a product
  abbrev pub Shallow : Table D S B → Type 0
  Shallow t = ShallowOver (model_of t) (entries_of t)

  -- the degree of the entry with a number
  abbrev pub degree_of : Table D S B → ℕ → ℕ
  degree_of t n = tree_degree (tree (model_of t) (entries_of t) n)

  -- entry 0 only, with these letters and this capacity
  pub record Made (letters : List ℕ) (capacity : ℕ) (t : Table D S B) : Type 0 where
    pub order : letters_of t ≡ letters
    pub room : capacity_of t ≡ capacity
    pub none : entries_of t ≡ []

  -- the same domain, order and capacity
  pub record SameFrame (t u : Table D S B) : Type 0 where
    pub domain : u.domain ≡ t.domain
    pub order : u.order ≡ t.order
    pub capacity : capacity_of u ≡ capacity_of t

  -- the mass of the entry with a number
  abbrev pub entry_mass : Table D S B → ℕ → ℕ
  entry_mass t n = tree_mass (model_of t) (tree (model_of t) (entries_of t) n)

  -- the reference's weight is a code, and its mass within the limit
  abbrev pub Light : Table D S B → Reference → Type 0
  Light t f = LightIn (model_of t) (entries_of t) f

  abbrev pub Lawful : Table D S B → Reference → Type 0
  Lawful t f = LawfulIn (model_of t) (entries_of t) f

  -- polynomials over the table's domain, in its letters
  abbrev pub PolynomialOf : Table D S B → Type 0
  PolynomialOf t = Polynomial B.carrier (letter_count t)

  -- the constant with this code
  abbrev pub constant_of : (t : Table D S B) → Number → PolynomialOf t
  constant_of t a = constant (model_of t).ring (letter_count t) ((model_of t).value a)

  -- the polynomial that a reference stands for, negated
  abbrev pub negated_of : (t : Table D S B) → Reference → PolynomialOf t
  negated_of t f = (Poly (model_of t).ring (letter_count t)).neg (of (model_of t) (letter_count t) (entries_of t) f)

  -- f is lawful and stands for h
  abbrev pub StandsFor : (t : Table D S B) → PolynomialOf t → Reference → Type 0
  StandsFor t h f = StandsForOver (model_of t) (letter_count t) (entries_of t) h f

  -- f and g have the same coefficient at every monomial
  abbrev pub Agree : Table D S B → Reference → Reference → Type 0
  Agree t f g = AgreeOver (model_of t) (letter_count t) (entries_of t) f g

  -- two lawful references, and whether they are the same
  abbrev pub Compared : Table D S B → Reference → Reference → Comparison → Type 0
  Compared t f g c = ComparedOver (model_of t) (entries_of t) f g c

  -- the refusal of the first that is not lawful
  abbrev pub UnlawfulOf : Table D S B → Reference → Reference → Fault → Type 0
  UnlawfulOf t f g e = UnlawfulOver (model_of t) (entries_of t) f g e

  -- c is the number of entries of the diagram of f, and no diagram for its polynomial has fewer
  abbrev pub LeastCount : Table D S B → Reference → ℕ → Type 0
  LeastCount t f c = LeastCountOver (model_of t) (letter_count t) (entries_of t) f c

  -- w is the code of the coefficient of f at the monomial u
  abbrev pub CoefficientAt : Table D S B → Reference → List ℕ → Number → Type 0
  CoefficientAt t f u w = CoefficientOver (model_of t) (letter_count t) (entries_of t) f u w

  -- and f is lawful, and u has one exponent for each letter
  abbrev pub Found : Table D S B → Reference → List ℕ → Number → Type 0
  Found t f u w = FoundOver (model_of t) (letter_count t) (entries_of t) f u w

  -- why a coefficient is refused: 5, then 13; or a later refusal
  abbrev pub BadMonomial : Table D S B → Reference → List ℕ → (Fault → Type 0) → Fault → Type 0
  BadMonomial t f u rest e = BadMonomialOver (model_of t) (letter_count t) (entries_of t) f u rest e

  -- e is the entry of this letter and these edges, and may stand after the entries
  abbrev pub Fits : Table D S B → ℕ → Edge → Edge → Entry → Type 0
  Fits t letter additive multiplicative e = FitsOver (model_of t) (letters_of t) (length (entries_of t)) letter additive multiplicative e

  -- why there is no such entry: 3, then 4, then 5; or a later refusal
  abbrev pub Misfit : Table D S B → ℕ → Edge → Edge → (Fault → Type 0) → Fault → Type 0
  Misfit t letter additive multiplicative rest e = MisfitOver (model_of t) (letters_of t) (length (entries_of t)) letter additive multiplicative rest e

  -- the entry of this letter and these edges was put at the end, with the number n
  abbrev pub Filled : Table D S B → Table D S B → ℕ → Edge → Edge → ℕ → Type 0
  Filled t u letter additive multiplicative n = FilledOver (model_of t) (letters_of t) (entries_of t) (entries_of u) (capacity_of t) letter additive multiplicative n

  -- why it was not: 3, then 4, then 5, then 8
  abbrev pub BadFilling : Table D S B → ℕ → Edge → Edge → Fault → Type 0
  BadFilling t letter additive multiplicative e = BadFillingOver (model_of t) (letters_of t) (entries_of t) (capacity_of t) letter additive multiplicative e

  -- entries were only appended
  abbrev pub Moved : Table D S B → Table D S B → Type 0
  Moved t u = MovedOver (entries_of t) (entries_of u)

  -- the number of e, which was appended if it was missing; or there was no room
  abbrev pub Interned : Table D S B → Table D S B → Entry → Result ℕ Fault → Type 0
  Interned t u e r = InternedOver (entries_of t) (entries_of u) (capacity_of t) e r

  -- the sum of p and the letter at place x times q can be one entry
  abbrev pub Joins : Table D S B → ℕ → Reference → Reference → Type 0
  Joins t x p q = JoinsOver (model_of t) (letter_count t) (entries_of t) x p q

  -- the one entry that it wants, unless it is 1
  abbrev pub Wanted : (t : Table D S B) → ℕ → Reference → Reference → Tree B.carrier → Type 0
  Wanted t x p q s = WantedOver (model_of t) (entries_of t) x p q s

  -- r is its reference, and the table has grown by what it wants
  abbrev pub Joined : Table D S B → Table D S B → ℕ → Reference → Reference → Reference → Type 0
  Joined t u x p q r = JoinedOver (model_of t) (letter_count t) (capacity_of t) (entries_of t) (entries_of u) x p q r

  -- no room for the entries of W
  abbrev pub Denied : (t : Table D S B) → (Tree B.carrier → Type 0) → Fault → Type 0
  Denied t W e = DeniedOver (model_of t) (capacity_of t) (entries_of t) W e

  -- an accepted call: r is the lawful reference of h, and the table has grown by exactly the missing ones of W
  abbrev pub Granted : (t u : Table D S B) → (Tree B.carrier → Type 0) → PolynomialOf t → Reference → Type 0
  Granted t u W h r = GrantedOver (model_of t) (letter_count t) (capacity_of t) (entries_of t) (entries_of u) W h r

  -- the entries of the diagram of h
  abbrev pub DiagramOf : (t : Table D S B) → PolynomialOf t → Tree B.carrier → Type 0
  DiagramOf t h s = InDiagram (model_of t) (letter_count t) h s

  -- the polynomial and the mass of a reference, and the sum of two
  abbrev pub polynomial_of : (t : Table D S B) → Reference → PolynomialOf t
  polynomial_of t f = of (model_of t) (letter_count t) (entries_of t) f

  abbrev pub mass_of : Table D S B → Reference → ℕ
  mass_of t f = mass_over (model_of t) (entries_of t) f

  abbrev pub sum_of : (t : Table D S B) → Reference → Reference → PolynomialOf t
  sum_of t f g = (Poly (model_of t).ring (letter_count t)).add (polynomial_of t f) (polynomial_of t g)

  -- and the difference
  abbrev pub difference_of : (t : Table D S B) → Reference → Reference → PolynomialOf t
  difference_of t f g = difference (model_of t).ring (letter_count t) (polynomial_of t f) (polynomial_of t g)

  -- r is the lawful reference of h, and exactly the missing entries of its diagram were added
  abbrev pub Gained : (t u : Table D S B) → PolynomialOf t → Reference → Type 0
  Gained t u h r = Granted t u (DiagramOf t h) h r

  -- x is the higher of the letters of two numbers, of which one has a letter
  abbrev pub Top : Table D S B → ℕ → ℕ → ℕ → Type 0
  Top t m n x = TopOver (entries_of t) m n x

  -- f can be split at the letter x
  abbrev pub Cuts : Table D S B → Reference → ℕ → Type 0
  Cuts t f x = CutsOver (model_of t) (letter_count t) (entries_of t) f x

  -- f is p plus x times q, with no letter up to x in p and none before x in q
  abbrev pub Parted : Table D S B → Reference → ℕ → Reference → Reference → Type 0
  Parted t f x p q = PartedOver (model_of t) (letter_count t) (entries_of t) f x p q

  -- the parts lead no higher than f, and lower where f has the letter x
  abbrev pub Falling : Table D S B → Reference → ℕ → Reference → Reference → Type 0
  Falling t f x p q = FallingOver (entries_of t) f x p q

  -- two lawful references of a kept table whose masses add up to the limit at most
  abbrev pub Addable : Table D S B → Reference → Reference → Type 0
  Addable t f g = AddableOver (model_of t) (letter_count t) (entries_of t) f g

  -- the same of any table
  abbrev pub SmallSum : Table D S B → Reference → Reference → Type 0
  SmallSum t f g = SmallSumOver (model_of t) (entries_of t) f g

  -- why a sum or a difference is refused: 5 for f, then for g, then 6; or a later refusal
  abbrev pub BadSum : Table D S B → Reference → Reference → (Fault → Type 0) → Fault → Type 0
  BadSum t f g rest e = BadSumOver (model_of t) (entries_of t) f g rest e

  -- 8 only where there is no room for the diagram of h, the sum or the difference
  abbrev pub NoSum : (t : Table D S B) → Reference → Reference → PolynomialOf t → Fault → Type 0
  NoSum t f g h e = BadSum t f g (Denied t (DiagramOf t h)) e

  -- the order has the letter
  abbrev pub Named : Table D S B → ℕ → Type 0
  Named t letter = NamedAmong (letters_of t) letter

  -- r is the reference of the letter, whose entry was added if it was missing
  abbrev pub Lettered : Table D S B → Table D S B → ℕ → Reference → Type 0
  Lettered t u letter r = LetteredOver (model_of t) (letter_count t) (capacity_of t) (letters_of t) (entries_of t) (entries_of u) letter r

  -- why a letter is refused: 3, then 8
  abbrev pub BadLetter : Table D S B → ℕ → Fault → Type 0
  BadLetter t letter e = BadLetterOver (letters_of t) (entries_of t) (capacity_of t) letter e

  -- 8 only where its entry is missing
  abbrev pub NoLetter : Table D S B → ℕ → Fault → Type 0
  NoLetter t letter e = NoLetterOver (model_of t) (letter_count t) (letters_of t) (entries_of t) (capacity_of t) letter e

  -- what prints: a reference; the entry with a number; the multiplicative and the additive edge of an entry
  abbrev pub line_of : Table D S B → Reference → List ℕ
  line_of t f = line (model_of t) (letters_of t) ((model_of t).value f.weight) (tree (model_of t) (entries_of t) f.entry)

  abbrev pub entry_text_of : Table D S B → ℕ → List ℕ
  entry_text_of t n = entry_text (model_of t) (letters_of t) (tree (model_of t) (entries_of t) n)

  abbrev pub times_text_of : Table D S B → Edge → List ℕ
  times_text_of t a = times_text (model_of t) ((model_of t).value a.weight) (tree (model_of t) (entries_of t) a.target) (entry_text_of t a.target)

  abbrev pub plus_text_of : Table D S B → Edge → List ℕ
  plus_text_of t a = plus_text (model_of t) ((model_of t).value a.weight) (tree (model_of t) (entries_of t) a.target) (entry_text_of t a.target)

  -- f is lawful, and its line of n bytes stands at the start of the buffer, which keeps the rest
  pub record Printed (t : Table D S B) (f : Reference) (before after : List ℕ) (n : ℕ) : Type 0 where
    pub lawful : Lawful t f
    pub long : n ≡ length (line_of t f)
    pub fits : n ≤ length before
    pub bytes : after ≡ line_of t f ++ drop n before

  -- why it was not: 5, then 12
  abbrev pub BadPrinting : Table D S B → Reference → List ℕ → Fault → Type 0
  BadPrinting t f before = Else (Lawful t f) (Unlawful f.entry) (Else (length (line_of t f) ≤ length before) (NoRoom (length before)) Never)

  -- the lengths of the entries' texts, of those with numbers up to i
  abbrev pub Measured : Table D S B → List ℕ → ℕ → Type 0
  Measured t lengths i = (j : ℕ) → 1 ≤ j → j ≤ i → slice_index lengths j ≡ clipped (length (entry_text_of t j))

  -- the product of two references, and a coefficient times a reference
  abbrev pub product_of : (t : Table D S B) → Reference → Reference → PolynomialOf t
  product_of t f g = (Poly (model_of t).ring (letter_count t)).mul (polynomial_of t f) (polynomial_of t g)

  abbrev pub scaled_of : (t : Table D S B) → Number → Reference → PolynomialOf t
  scaled_of t a f = scaled (model_of t).ring (letter_count t) ((model_of t).value a) (polynomial_of t f)

  -- the entries of the working polynomials of two references
  abbrev pub WorkingOf : (t : Table D S B) → Reference → Reference → Tree B.carrier → Type 0
  WorkingOf t f g s = WorkingEntries (model_of t) (letter_count t) (polynomial_of t f) (polynomial_of t g) s

  -- two lawful references of a kept table whose masses multiplied are at most the limit; a code and a lawful reference
  abbrev pub Multipliable : Table D S B → Reference → Reference → Type 0
  Multipliable t f g = MultipliableOver (model_of t) (letter_count t) (entries_of t) f g

  abbrev pub Scalable : Table D S B → Number → Reference → Type 0
  Scalable t a f = ScalableOver (model_of t) (letter_count t) (entries_of t) a f

  -- of f and g, u is the one with the higher letter x, or f where both have it, and o is the other
  abbrev pub Ordered : Table D S B → Reference → Reference → ℕ → Reference → Reference → Type 0
  Ordered t f g x u o = OrderedOver (entries_of t) f g x u o

  -- two lawful references of any table whose masses multiplied are at most the limit, and whose degrees add up to a product's
  abbrev pub SmallProduct : Table D S B → Reference → Reference → Type 0
  SmallProduct t f g = SmallProductOver (model_of t) (entries_of t) f g

  -- why a product is refused: 5 for f, then for g, then 6, then 7; or a later refusal
  abbrev pub BadProduct : Table D S B → Reference → Reference → (Fault → Type 0) → Fault → Type 0
  BadProduct t f g rest e = BadProductOver (model_of t) (entries_of t) f g rest e
