-- How many parentheses are open together in the text of an entry.
use Rattle.std.proofs.Common.{ℕ, suc, ◌+◌, ◌*◌, ◌≤◌, max, arith}
use Rattle.domain.specs.Model.{Model}
use Rattle.polynomial.specs.Trees.{Tree, leaf, node, After, From, Reduced, tree_degree}

-- at most this many: one for a weight, two along a multiplicative edge
abbrev pub depth : {E : Type 0} → Tree E → ℕ
depth leaf = 0
depth (node x p m q n) = max (1 + depth m) (2 + depth n)

after-from : {E : Type 0} (x : ℕ) (t : Tree E) → After x t → From (suc x) t
after-from x leaf a = tt
after-from x (node y p m q n) a = omega arith

-- two for each degree, and one for each letter from x on
pub depth_bound : {E : Type 0} (M : Model E) (k : ℕ) (t : Tree E) → Reduced M k t → (x : ℕ) → From x t → x ≤ k → depth t + x ≤ 2 * tree_degree t + k
depth_bound M k leaf r x f h = omega arith
depth_bound M k (node y p m q n) r x f h =
    let low : depth m + suc y ≤ 2 * tree_degree m + k = depth_bound M k m r.below (suc y) (after-from y m r.after) (omega (arith, r.known)) in
    let high : depth n + y ≤ 2 * tree_degree n + k = depth_bound M k n r.beside y r.from (omega (arith, r.known)) in
    omega arith
