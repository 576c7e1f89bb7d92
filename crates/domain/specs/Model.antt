-- What a coefficient domain means, and the laws that each domain keeps.
use Rattle.std.specs.Prelude.{◌≡◌, ℕ, suc, ◌+◌, ◌*◌, ◌≤◌, Bool, true, ◌≢◌, ◌⊎◌, ◌↔◌, pos, negsuc, unsigned_abs}
use Rattle.domain.specs.declared.number.Number.{Number}
use Rattle.domain.specs.Numbers.{number}
use Rattle.domain.specs.Ring.{Ring, Laws, Integral}

-- The exact elements E with their operations and sizes; the limit M; which numbers are codes, the element of each code
-- and the code of each element that has one; the three codes that factor answers for two codes. Of an element without a
-- code `code` says nothing, nor `value` and `factor` of a number that is no code.
pub record Model (E : Type 0) : Type 0 where
  pub ring : Ring E
  pub size : E → ℕ
  pub limit : ℕ
  pub coded : Number → Bool
  pub value : Number → E
  pub code : E → Number
  pub factor : Number → Number → Number × Number × Number

-- the laws of sizes
pub record Sizes {E : Type 0} (M : Model E) : Type 0 where
  pub sum : (a b : E) → M.size (M.ring.add a b) ≤ M.size a + M.size b
  pub product : (a b : E) → M.size (M.ring.mul a b) ≡ M.size a * M.size b
  -- every size is 0, or that of zero alone
  pub kinds : ((a : E) → M.size a ≡ 0) ⊎ ((a : E) → (M.size a ≡ 0) ↔ (a ≡ M.ring.zero))

-- the laws of the limit and of codes
pub record Codes {E : Type 0} (M : Model E) : Type 0 where
  pub least : 1 ≤ M.limit
  pub most : M.limit ≤ 2147483647
  pub narrow : (n : Number) → M.coded n ≡ true → unsigned_abs n.int ≤ 2147483647
  -- an element has a code exactly when its size is at most the limit, and then one only
  pub small : (n : Number) → M.coded n ≡ true → M.size (M.value n) ≤ M.limit
  pub only : (n : Number) → M.coded n ≡ true → M.code (M.value n) ≡ n
  pub has : (a : E) → M.size a ≤ M.limit → (M.coded (M.code a) ≡ true) × (M.value (M.code a) ≡ a)
  pub zero : (M.coded (number (pos 0)) ≡ true) × (M.value (number (pos 0)) ≡ M.ring.zero)
  pub one : (M.coded (number (pos 1)) ≡ true) × (M.value (number (pos 1)) ≡ M.ring.one)
  -- the opposite of a negative code is the code of the negated element
  pub negative : (n : ℕ) → M.coded (number (negsuc n)) ≡ true → (M.coded (number (pos (suc n))) ≡ true) × (M.value (number (pos (suc n))) ≡ M.ring.neg (M.value (number (negsuc n))))

-- what factor answers for two codes a and b, that of b not being zero
pub record Factors {E : Type 0} (M : Model E) (a b : Number) : Type 0 where
  pub g_coded : M.coded (M.factor a b).0 ≡ true
  pub p_coded : M.coded (M.factor a b).1 ≡ true
  pub q_coded : M.coded (M.factor a b).2 ≡ true
  pub left : M.value a ≡ M.ring.mul (M.value (M.factor a b).0) (M.value (M.factor a b).1)
  pub right : M.value b ≡ M.ring.mul (M.value (M.factor a b).0) (M.value (M.factor a b).2)
  pub some : M.value (M.factor a b).0 ≢ M.ring.zero

-- a' and b' are the codes of k times a and k times b, k not being zero: factor answers k times g, and the same p and q
pub record Scales {E : Type 0} (M : Model E) (a b a' b' : Number) (k : E) : Type 0 where
  pub first : M.value (M.factor a' b').0 ≡ M.ring.mul k (M.value (M.factor a b).0)
  pub second : (M.factor a' b').1 ≡ (M.factor a b).1
  pub third : (M.factor a' b').2 ≡ (M.factor a b).2

-- all laws of a domain
pub record Sound {E : Type 0} (M : Model E) : Type 0 where
  pub laws : Laws M.ring
  pub integral : Integral M.ring
  pub sizes : Sizes M
  pub codes : Codes M
  pub factors : (a b : Number) → M.coded a ≡ true → M.coded b ≡ true → M.value b ≢ M.ring.zero → Factors M a b
  pub scales : (k : E) (a b a' b' : Number) → M.coded a ≡ true → M.coded b ≡ true → M.value b ≢ M.ring.zero → k ≢ M.ring.zero
      → M.coded a' ≡ true → M.coded b' ≡ true → M.value a' ≡ M.ring.mul k (M.value a) → M.value b' ≡ M.ring.mul k (M.value b)
      → Scales M a b a' b' k
