-- The line that a reference prints, over a domain's model M and the letters ls of an order, the highest first.
use Rattle.std.specs.Prelude.{ℕ, Bool, true, false, cond, ◌&&◌, List, [], ◌∷◌, ◌++◌, ℤ, pos, codes, slice_index_or}
use Rattle.std.specs.Fmt.{signed_decimal}
use Rattle.std.specs.Ordering.{int_eq}
use Rattle.domain.specs.Model.{Model}
use Rattle.polynomial.specs.Trees.{Tree, leaf, node}

-- whether z is the code of an element
abbrev pub has_code : {E : Type 0} → Model E → E → ℤ → Bool
has_code M w z = int_eq (M.code w).int z

abbrev pub is_leaf : {E : Type 0} → Tree E → Bool
is_leaf leaf = true
is_leaf (node x p m q n) = false

-- an element in decimal, by its code
abbrev pub weight_text : {E : Type 0} → Model E → E → List ℕ
weight_text M w = signed_decimal (M.code w).int

-- a reference: at 1 its weight; at another entry, whose text is s, that text alone or as a factor
abbrev pub reference_text : {E : Type 0} → Model E → E → Tree E → List ℕ → List ℕ
reference_text M w leaf s = weight_text M w
reference_text M w (node x p m q n) s = cond (has_code M w (pos 1)) s (weight_text M w ++ (codes "*(" ++ (s ++ codes ")")))

-- what the multiplicative edge adds to its letter; nothing where it is the letter alone
abbrev pub times_text : {E : Type 0} → Model E → E → Tree E → List ℕ → List ℕ
times_text M q n s = cond (has_code M q (pos 1) && is_leaf n) [] (codes "*(" ++ (reference_text M q n s ++ codes ")"))

-- what the additive edge adds; nothing where it is zero
abbrev pub plus_text : {E : Type 0} → Model E → E → Tree E → List ℕ → List ℕ
plus_text M p m s = cond (has_code M p (pos 0)) [] (codes "+" ++ reference_text M p m s)

-- an entry: its letter, then the multiplicative edge, then the additive one
abbrev pub entry_text : {E : Type 0} → Model E → List ℕ → Tree E → List ℕ
entry_text M ls leaf = []
entry_text M ls (node x p m q n) =
    slice_index_or ls x 0 ∷ (times_text M q n (entry_text M ls n) ++ plus_text M p m (entry_text M ls m))

-- the line of the reference with weight w to the entry t
abbrev pub line : {E : Type 0} → Model E → List ℕ → E → Tree E → List ℕ
line M ls w t = reference_text M w t (entry_text M ls t)
