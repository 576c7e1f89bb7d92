-- What the numbers and letters of a formula mean as polynomials in the letters ls of an order.
use Rattle.std.specs.Prelude.{◌≡◌, ℕ, suc, ◌+◌, ◌<◌, ◌==◌, true, cond, List, [], ◌∷◌, length, pos}
use Rattle.domain.specs.Model.{Model}
use Rattle.domain.specs.Numbers.{number}
use Rattle.formula.specs.Formulas.{Formula}
use Rattle.formula.specs.Formulas.Formula.{constant as the_number, letter as the_letter, sum, difference, product, negation, power}
use Rattle.formula.specs.Signs.{first_letter}
use Rattle.polynomial.specs.Polynomials.{Polynomial, constant, letter}

-- a number means the element whose code it is
abbrev pub number_meant : {E : Type 0} (M : Model E) (k : ℕ) → ℕ → Polynomial E k
number_meant M k n = constant M.ring k (M.value (number (pos n)))

-- the first place of a byte, or the length where it has none
abbrev pub place : List ℕ → ℕ → ℕ
place [] b = 0
place (l ∷ ls) b = cond (l == b) 0 (suc (place ls b))

-- the letter i of formulas, 0 for a, means the letter at its place; one that is not in the order means zero
abbrev pub letter_meant : {E : Type 0} (M : Model E) (ls : List ℕ) → ℕ → Polynomial E (length ls)
letter_meant M ls i = letter M.ring (length ls) (place ls (first_letter + i))

-- each number of a formula is a code, and each letter is in the order
abbrev pub Known : {E : Type 0} → Model E → List ℕ → Formula → Type 0
Known M ls (the_number n) = M.coded (number (pos n)) ≡ true
Known M ls (the_letter i) = place ls (first_letter + i) < length ls
Known M ls (sum f g) = Known M ls f × Known M ls g
Known M ls (difference f g) = Known M ls f × Known M ls g
Known M ls (product f g) = Known M ls f × Known M ls g
Known M ls (negation f) = Known M ls f
Known M ls (power f k) = Known M ls f
