-- The diagram of a polynomial, told by the polynomials that it is made of.
use Rattle.std.specs.Prelude.{◌≡◌, ℕ, ◌<◌, ◌≤◌, ◌≢◌}
use Rattle.domain.specs.Model.{Model}
use Rattle.domain.specs.Ring.{Ring}
use Rattle.polynomial.specs.Polynomials.{Polynomial, Poly, letter, down}
use Rattle.polynomial.specs.Trees.{Tree, leaf, Reduced, Lawful, value}

-- f = a + x h, with no letter up to x in a, and none before x in h
pub record Splits {E : Type 0} (R : Ring E) (k x : ℕ) (f a h : Polynomial E k) : Type 0 where
  pub known : x < k
  pub means : f ≡ (Poly R k).add ((Poly R k).mul (letter R k x) h) a
  pub low : (y : ℕ) → y ≤ x → down R k y a ≡ (Poly R k).zero
  pub high : (y : ℕ) → y < x → down R k y h ≡ (Poly R k).zero

-- g is f, or a part of what f is split into
pub data Part {E : Type 0} (R : Ring E) (k : ℕ) (g : Polynomial E k) : Polynomial E k → Type 0 where
  whole : (f : Polynomial E k) → f ≡ g → Part R k g f
  lo : (x : ℕ) (f a h : Polynomial E k) → Splits R k x f a h → Part R k g a → Part R k g f
  hi : (x : ℕ) (f a h : Polynomial E k) → Splits R k x f a h → Part R k g h → Part R k g f

-- s, with some weight, stands for a part of f
pub record Needs {E : Type 0} (M : Model E) (k : ℕ) (f : Polynomial E k) (s : Tree E) : Type 0 where
  pub u : E
  pub node : s ≢ leaf
  pub reduced : Reduced M k s
  pub lawful : Lawful M u s
  pub part : Part M.ring k (value M.ring k u s) f
