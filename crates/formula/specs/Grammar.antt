-- Which text spells which formula.
--
-- A text is a list of bytes. Each relation below is between a text s and what follows a part of it: s begins with the part, and t is the rest of s.
use Rattle.std.specs.Prelude.{ℕ, suc, ◌+◌, ◌*◌, ◌^◌, ◌<◌, ◌≤◌, List, [], ◌∷◌}
use Rattle.formula.specs.Formulas.{Formula}
use Rattle.formula.specs.Formulas.Formula.{constant, letter, sum, difference, product, negation, power}
use Rattle.formula.specs.Limits.{max_exponent, max_open}
use Rattle.formula.specs.Signs.{sign_space, sign_open, sign_close, sign_times, sign_plus, sign_minus, sign_caret, first_digit, first_letter}

-- `Number n s t`: s begins with digits for n, which are 0 alone or do not start with 0; t is the rest
pub data Number : ℕ → List ℕ → List ℕ → Type 0 where
  digit : {t : List ℕ} (d : ℕ) → d < 10 → Number d ((first_digit + d) ∷ t) t
  more : {n : ℕ} {s t : List ℕ} (d : ℕ) → Number n s ((first_digit + d) ∷ t) → 0 < n → d < 10 → Number (10 * n + d) s t

-- `Spaces s t`: s begins with any number of spaces, or none; t is the rest
pub data Spaces : List ℕ → List ℕ → Type 0 where
  none : {t : List ℕ} → Spaces t t
  space : {s t : List ℕ} → Spaces s (sign_space ∷ t) → Spaces s t

-- the parts of a formula's text: a formula is terms joined by + or -, a term is factors joined by *, and a factor is an atom behind any number of -, with an exponent or without
pub data Part : Type 0 where
  formula : Part
  term : Part
  factor : Part
  atom : Part

-- `Reads p d f s t`: inside d open parentheses, s begins with a part p that spells f; t is the rest
pub data Reads : Part → ℕ → Formula → List ℕ → List ℕ → Type 0 where
  -- an atom is a letter,
  a_letter : {d : ℕ} {t : List ℕ} (i : ℕ) → i < 16 → Reads atom d (letter i) ((first_letter + i) ∷ t) t
  -- or a number below 2 ^ 32,
  a_number : {d n : ℕ} {s t : List ℕ} → Number n s t → n < 2 ^ 32 → Reads atom d (constant n) s t
  -- or a formula in parentheses
  in_parentheses : {d : ℕ} {f : Formula} {s t : List ℕ} → d < max_open → Reads formula (suc d) f s (sign_close ∷ t) → Reads atom d f (sign_open ∷ s) t
  -- a factor is an atom,
  an_atom : {d : ℕ} {f : Formula} {s t : List ℕ} → Reads atom d f s t → Reads factor d f s t
  -- or an atom, ^ and an exponent,
  a_power : {d k : ℕ} {f : Formula} {s t u v : List ℕ} → Reads atom d f s (sign_caret ∷ u) → Spaces u v → Number k v t → 0 < k → k ≤ max_exponent → Reads factor d (power f k) s t
  -- or - and a factor
  a_negation : {d : ℕ} {f : Formula} {s t : List ℕ} → Reads factor d f s t → Reads factor d (negation f) (sign_minus ∷ s) t
  -- a term is a factor,
  a_factor : {d : ℕ} {f : Formula} {s t : List ℕ} → Reads factor d f s t → Reads term d f s t
  -- or a term, * and a factor
  a_product : {d : ℕ} {f g : Formula} {s t u : List ℕ} → Reads term d f s (sign_times ∷ u) → Reads factor d g u t → Reads term d (product f g) s t
  -- a formula is a term,
  a_term : {d : ℕ} {f : Formula} {s t : List ℕ} → Reads term d f s t → Reads formula d f s t
  -- or a formula, + and a term,
  a_sum : {d : ℕ} {f g : Formula} {s t u : List ℕ} → Reads formula d f s (sign_plus ∷ u) → Reads term d g u t → Reads formula d (sum f g) s t
  -- or a formula, - and a term
  a_difference : {d : ℕ} {f g : Formula} {s t u : List ℕ} → Reads formula d f s (sign_minus ∷ u) → Reads term d g u t → Reads formula d (difference f g) s t
  -- a space may stand before each part,
  space_before : {p : Part} {d : ℕ} {f : Formula} {s t : List ℕ} → Reads p d f s t → Reads p d f (sign_space ∷ s) t
  -- and after it
  space_after : {p : Part} {d : ℕ} {f : Formula} {s t : List ℕ} → Reads p d f s (sign_space ∷ t) → Reads p d f s t

-- the text s, whole, spells the formula f
abbrev pub Spells : Formula → List ℕ → Type 0
Spells f s = Reads formula 0 f s []
