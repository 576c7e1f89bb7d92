-- The working polynomials of a product.
use Rattle.std.specs.Prelude.{◌≡◌, ℕ, ◌<◌, ◌≤◌, ◌≢◌}
use Rattle.domain.specs.Ring.{Ring}
use Rattle.polynomial.specs.Needs.{Splits}
use Rattle.polynomial.specs.Polynomials.{Polynomial, Poly, letter, down}

-- f has no letter
abbrev pub Constant : {E : Type 0} (R : Ring E) (k : ℕ) → Polynomial E k → Type 0
Constant R k f = (y : ℕ) → down R k y f ≡ (Poly R k).zero

-- x is the higher of the two top letters and f = a + x h has it; neither f nor g is constant
pub record Leads {E : Type 0} (R : Ring E) (k x : ℕ) (f a h g : Polynomial E k) : Type 0 where
  pub splits : Splits R k x f a h
  pub has : h ≢ (Poly R k).zero
  pub later : (y : ℕ) → y < x → down R k y g ≡ (Poly R k).zero
  pub varies : Constant R k g → ⊥

-- g has a letter before every letter of f; neither is constant
pub record Trails {E : Type 0} (R : Ring E) (k : ℕ) (f g : Polynomial E k) : Type 0 where
  pub x : ℕ
  pub has : down R k x g ≢ (Poly R k).zero
  pub later : (y : ℕ) → y ≤ x → down R k y f ≡ (Poly R k).zero
  pub varies : Constant R k f → ⊥

-- r is a working polynomial of f and g. If an operand is constant there is none. Otherwise the operand with the higher top
-- letter x, the first if both have it, is f = a + x h, and the working polynomials are those of a and g, those of h and g,
-- x h g, and f g.
pub data Working {E : Type 0} (R : Ring E) (k : ℕ) (r : Polynomial E k) : Polynomial E k → Polynomial E k → Type 0 where
  low : (x : ℕ) (f a h g : Polynomial E k) → Leads R k x f a h g → Working R k r a g → Working R k r f g
  high : (x : ℕ) (f a h g : Polynomial E k) → Leads R k x f a h g → Working R k r h g → Working R k r f g
  times : (x : ℕ) (f a h g : Polynomial E k) → Leads R k x f a h g → r ≡ (Poly R k).mul (letter R k x) ((Poly R k).mul h g) → Working R k r f g
  whole : (x : ℕ) (f a h g : Polynomial E k) → Leads R k x f a h g → r ≡ (Poly R k).mul f g → Working R k r f g
  other : (f g : Polynomial E k) → Trails R k f g → Working R k r g f → Working R k r f g
