-- One small example of each definition, over the integers and the letters a and b.
use Rattle.std.specs.Prelude.{◌≡◌, [], ◌∷◌, ℤ, pos}
use Rattle.domain.specs.Ring.{Ring}
use Rattle.polynomial.specs.Coefficients.{coefficient}
use Rattle.polynomial.specs.Degree.{Degree}
use Rattle.polynomial.specs.Diagrams.{Diagram}
use Rattle.polynomial.specs.Entries.{Entry}
use Rattle.polynomial.specs.Growth.{Grown, Overfull}
use Rattle.polynomial.specs.Masses.{mass}
use Rattle.polynomial.specs.Polynomials.{Polynomial, Poly, constant, letter, scaled}
use Rattle.polynomial.specs.Rivals.{Rival}
use Rattle.polynomial.specs.Theorems.{Of}
use Rattle.polynomial.specs.Trees.{Tree, leaf, node, Reduced, Lawful, tree_mass, value}
use Rattle.polynomial.specs.Working.{Working}
use Rattle.whole.specs.Integers.{integers, integer_ring}

abbrev pub P : Ring (Polynomial ℤ 2)
P = Poly integer_ring 2

abbrev pub a : Polynomial ℤ 2
a = letter integer_ring 2 0

abbrev pub b : Polynomial ℤ 2
b = letter integer_ring 2 1

-- 6 a + 4 is 2 times the entry a·3 + 2
abbrev pub six_a_four : Polynomial ℤ 2
six_a_four = P.add (scaled integer_ring 2 (pos 6) a) (constant integer_ring 2 (pos 4))

abbrev pub three_a_two : Tree ℤ
three_a_two = node 0 (pos 2) leaf (pos 3) leaf

-- the entry b, and the entry a·b + b, both of whose edges lead to it
abbrev pub just_b : Tree ℤ
just_b = node 1 (pos 0) leaf (pos 1) leaf

abbrev pub ab_b : Tree ℤ
ab_b = node 0 (pos 1) just_b (pos 1) just_b

abbrev pub entry_b : Entry ℤ
entry_b = record { letter = 1; p = pos 0; lo = 0; q = pos 1; hi = 0 }

-- an entry that no reduction would leave: its multiplicative weight is zero
abbrev pub idle : Entry ℤ
idle = record { letter = 0; p = pos 5; lo = 1; q = pos 0; hi = 1 }

pub record Examples : Type 0 where
  -- (a + 2 b)^2 has 4 a b
  pub product_coefficient : let f = P.add a (scaled integer_ring 2 (pos 2) b) in coefficient integer_ring 2 (P.mul f f) (1 ∷ 1 ∷ []) ≡ pos 4
  pub mass_is : mass integers 1 2 six_a_four ≡ 10
  pub entry_mass : tree_mass integers three_a_two ≡ 5
  pub reduced : Reduced integers 2 three_a_two
  pub lawful : Lawful integers (pos 2) three_a_two
  pub stands_for : value integer_ring 2 (pos 2) three_a_two ≡ six_a_four
  pub degree_is : Degree integer_ring 2 (value integer_ring 2 (pos 2) three_a_two) 1
  -- two entries, though the tree has three nodes
  pub diagram : Diagram ab_b (ab_b ∷ just_b ∷ [])
  -- a times b has two working polynomials
  pub working_times : Working integer_ring 2 (P.mul a (P.mul P.one b)) a b
  pub working_whole : Working integer_ring 2 (P.mul a b) a b
  -- a rival for b with an entry more than it needs
  pub rival : Rival integer_ring 2 (entry_b ∷ idle ∷ []) (value integer_ring 2 (pos 1) just_b)
  -- the entry b fits a capacity of 1, those of a·b + b do not
  pub grown : Grown [] (entry_b ∷ []) (Of (just_b ∷ []))
  pub overfull : Overfull [] 1 (Of (ab_b ∷ just_b ∷ []))
