-- Entries, unfolded into trees: letter rules, reduced entries, lawful references, and what they stand for.
use Rattle.std.specs.Prelude.{◌≡◌, ℕ, ◌+◌, ◌*◌, ◌<◌, ◌≤◌, max, true, false, ◌≢◌}
use Rattle.domain.specs.Model.{Model}
use Rattle.domain.specs.Ring.{Ring}
use Rattle.polynomial.specs.Elements.{is_zero, factor}
use Rattle.polynomial.specs.Polynomials.{Polynomial, Poly, letter, scaled}

-- An entry with all that it leads to: 1, or p times an entry m plus a letter x times q times an entry n. The edge (p, m)
-- is the additive one, (q, n) the multiplicative one.
pub data Tree (E : Type 0) : Type 0 where
  leaf : Tree E
  node : ℕ → E → Tree E → E → Tree E → Tree E

-- the tree's letter is later than x; 1 is later than every letter
abbrev pub After : {E : Type 0} → ℕ → Tree E → Type 0
After x leaf = Unit {0}
After x (node y p m q n) = x < y

-- the tree's letter is x or later
abbrev pub From : {E : Type 0} → ℕ → Tree E → Type 0
From x leaf = Unit {0}
From x (node y p m q n) = x ≤ y

-- the rules of a reduced entry: the letter rules; q is not zero; p is zero only with target 1; p and q have codes, and
-- factor takes nothing more out of them
pub record Rules {E : Type 0} (M : Model E) (k x : ℕ) (p : E) (m : Tree E) (q : E) (n : Tree E) (Below Beside : Type 0) : Type 0 where
  pub known : x < k
  pub after : After x m
  pub from : From x n
  pub leads : q ≢ M.ring.zero
  pub bare : p ≡ M.ring.zero → m ≡ leaf
  pub coded_p : M.size p ≤ M.limit
  pub coded_q : M.size q ≤ M.limit
  pub factored : factor M p q ≡ (M.ring.one, p, q)
  pub below : Below
  pub beside : Beside

-- the entry and all that it leads to are reduced
abbrev pub Reduced : {E : Type 0} (M : Model E) → ℕ → Tree E → Type 0
Reduced M k leaf = Unit {0}
Reduced M k (node x p m q n) = Rules M k x p m q n (Reduced M k m) (Reduced M k n)

-- the polynomial that an entry stands for
abbrev pub meaning : {E : Type 0} (R : Ring E) (k : ℕ) → Tree E → Polynomial E k
meaning R k leaf = (Poly R k).one
meaning R k (node x p m q n) =
    (Poly R k).add (scaled R k p (meaning R k m)) ((Poly R k).mul (letter R k x) (scaled R k q (meaning R k n)))

-- the mass of an entry, from its edges
abbrev pub tree_mass : {E : Type 0} (M : Model E) → Tree E → ℕ
tree_mass M leaf = M.size M.ring.one
tree_mass M (node x p m q n) = M.size p * tree_mass M m + M.size q * tree_mass M n

-- the degree of an entry, from its edges
abbrev pub tree_degree : {E : Type 0} → Tree E → ℕ
tree_degree leaf = 0
tree_degree (node x p m q n) = max (tree_degree m) (1 + tree_degree n)

-- how many entries lead from one to the next at most: no exponent is higher
abbrev pub height : {E : Type 0} → Tree E → ℕ
height leaf = 0
height (node x p m q n) = 1 + max (height m) (height n)

-- a reference, weight and entry, is lawful: the weight is zero only at 1, and the mass is within the limit
pub record Lawful {E : Type 0} (M : Model E) (w : E) (t : Tree E) : Type 0 where
  pub bare : w ≡ M.ring.zero → t ≡ leaf
  pub light : M.size w * tree_mass M t ≤ M.limit

-- the polynomial that a reference stands for
abbrev pub value : {E : Type 0} (R : Ring E) (k : ℕ) → E → Tree E → Polynomial E k
value R k w t = scaled R k w (meaning R k t)

-- the reference of a times m plus x times b times n: the common factor comes out in front
abbrev pub make : {E : Type 0} (M : Model E) → ℕ → E → Tree E → E → Tree E → E × Tree E
make M x a m b n =
    elim (is_zero M b) [ true ↦ (a, m) | false ↦ ((factor M a b).0, node x (factor M a b).1 m (factor M a b).2 n) ]
