-- The masses of the entries, one after the other.
use Rattle.std.proofs.Common.{◌≡◌, ℕ, zero, suc, ◌+◌, ◌*◌, ◌<◌, ◌≤◌, List, [], ◌∷◌, ◌++◌, length, get_or, take, Ok, Err, Result, mul_comm, sym, ap, ◌∙◌, subst, ap₂, suc-mul, zero-mul, arith, length-append}
use lib.ListN.{get_or-append}
use lib.Seq.{get_or-append_seam}
use native.Mathlib.Nat.{min-eq_left, min-eq_right}
use native.Mathlib.Decide.{dec_lt}
use Rattle.domain.specs.Model.{Model}
use Rattle.domain.specs.declared.fault.Fault.{Fault}
use Rattle.polynomial.specs.Entries.{stands, trees}
use Rattle.polynomial.specs.Trees.{tree_mass}
use Rattle.diagram.specs.Checks.{Admits}
use Rattle.diagram.specs.Masses.{capped, weighed}
use Rattle.diagram.specs.Places.{All, Lower, Falls}
use Rattle.diagram.specs.Tables.{node_of, nodes, tree, Coded}
use Rattle.diagram.specs.declared.entry.Entry.{Entry}
use Rattle.diagram.proofs.Listing.{taken_at}
use Rattle.diagram.proofs.Numbering.{tree-at}

-- the masses of the numbers up to i
abbrev pub Weighed : {E : Type 0} → Model E → List Entry → List ℕ → ℕ → Type 0
Weighed M es ms i = (j : ℕ) → j ≤ i → get_or ms j 0 ≡ capped (tree_mass M (tree M es j))

capped_small : (n : ℕ) → n ≤ 4294967295 → capped n ≡ n
capped_small n h = min-eq_left h

capped_large : (n : ℕ) → 4294967295 ≤ n → capped n ≡ 4294967295
capped_large n h = min-eq_right h

-- a limit below the cap does not notice it
pub capped_within : (n l : ℕ) → l ≤ 2147483647 → (capped n ≤ l → n ≤ l) × (n ≤ l → capped n ≤ l)
capped_within n l h =
    elim (dec_lt n 4294967295) [
      | yes b ↦ let e = capped_small n (omega arith) in (λ k. omega arith, λ k. omega arith)
      | no b ↦ let e = capped_large n (omega arith) in (λ k. absurd (omega arith), λ k. absurd (omega arith))
    ]

-- capping first makes no difference
pub capped-times : (s n : ℕ) → capped (s * capped n) ≡ capped (s * n)
capped-times s n =
    elim (dec_lt n 4294967295) [
      | yes l ↦ ap (λ z. capped (s * z)) (capped_small n (omega arith))
      | no l ↦ ap (λ z. capped (s * z)) (capped_large n (omega arith)) ∙ go s (omega arith)
    ]
  where
    go : (s : ℕ) → 4294967295 ≤ n → capped (s * 4294967295) ≡ capped (s * n)
    go zero h = ap capped (zero-mul 4294967295 ∙ sym (zero-mul n))
    go (suc s) h =
        capped_large (suc s * 4294967295) (omega (arith, suc-mul s 4294967295)) ∙ sym (capped_large (suc s * n) (omega (arith, suc-mul s n)))

capped-product : (m n : ℕ) → capped (capped m * capped n) ≡ capped (m * n)
capped-product m n = capped-times (capped m) n ∙ (ap capped (mul_comm (capped m) n) ∙ (capped-times n m ∙ ap capped (mul_comm n m)))

-- the test of a product of two masses that stop at the end of their range is exact
pub product_within : (m n a b l : ℕ) (f : Fault) (r : Result Unit Fault) → l ≤ 2147483647 → a ≡ capped m → b ≡ capped n → Admits (capped (a * b) ≤ l) f r → Admits (m * n ≤ l) f r
product_within m n a b l f r small ea eb h = go r h
  where
    is : capped (a * b) ≡ capped (m * n)
    is = ap₂ (λ y z. capped (y * z)) ea eb ∙ capped-product m n

    go : (r : Result Unit Fault) → Admits (capped (a * b) ≤ l) f r → Admits (m * n ≤ l) f r
    go (Ok x) k = (capped_within (m * n) l small).0 (subst (λ z. z ≤ l) is k)
    go (Err e) k = (λ z. k.0 (subst (λ y. y ≤ l) (sym is) ((capped_within (m * n) l small).1 z)), k.1)

capped_sum : (a b : ℕ) → capped (capped a + capped b) ≡ capped (a + b)
capped_sum a b =
    elim (dec_lt a 4294967295) [
      | yes l ↦ elim (dec_lt b 4294967295) [
        | yes m ↦ ap₂ (λ y z. capped (y + z)) (capped_small a (omega arith)) (capped_small b (omega arith))
        | no m ↦ let e : capped b ≡ 4294967295 = capped_large b (omega arith) in
            capped_large (capped a + capped b) (omega arith) ∙ sym (capped_large (a + b) (omega arith))
      ]
      | no l ↦ let e : capped a ≡ 4294967295 = capped_large a (omega arith) in
          capped_large (capped a + capped b) (omega arith) ∙ sym (capped_large (a + b) (omega arith))
    ]

-- and that of a sum
pub sum_within : (m n a b l : ℕ) (f : Fault) (r : Result Unit Fault) → l ≤ 2147483647 → a ≡ capped m → b ≡ capped n → Admits (capped (a + b) ≤ l) f r → Admits (m + n ≤ l) f r
sum_within m n a b l f r small ea eb h = go r h
  where
    is : capped (a + b) ≡ capped (m + n)
    is = ap₂ (λ y z. capped (y + z)) ea eb ∙ capped_sum m n

    go : (r : Result Unit Fault) → Admits (capped (a + b) ≤ l) f r → Admits (m + n ≤ l) f r
    go (Ok x) k = (capped_within (m + n) l small).0 (subst (λ z. z ≤ l) is k)
    go (Err e) k = (λ z. k.0 (subst (λ y. y ≤ l) (sym is) ((capped_within (m + n) l small).1 z)), k.1)

module _ {E : Type 0} (M : Model E) (es : List Entry) (i : ℕ) (e : Entry) (fall : Falls es) (inside : i < length es) (at : e ≡ get_or es i e) (ms : List ℕ) where
  low : Lower i e
  low = subst (Lower i) (sym at) (fall i e inside)

  next-mass : Weighed M es ms i → weighed M ms e ≡ capped (tree_mass M (tree M es (suc i)))
  next-mass inv =
      let sp = M.size (M.value e.additive.weight) in
      let sq = M.size (M.value e.multiplicative.weight) in
      let m = tree_mass M (tree M es e.additive.target) in
      let n = tree_mass M (tree M es e.multiplicative.target) in
      let is : tree M es (suc i) ≡ stands (trees (nodes M es)) (node_of M e) =
      tree-at M es i e fall inside ∙ ap (λ (d : Entry). stands (trees (nodes M es)) (node_of M d)) (sym at) in
      ap₂ (λ y z. capped (capped (sp * y) + capped (sq * z))) (inv e.additive.target low.0) (inv e.multiplicative.target low.1)
      ∙ (ap₂ (λ y z. capped (y + z)) (capped-times sp m) (capped-times sq n) ∙ (capped_sum (sp * m) (sq * n) ∙ sym (ap (λ t. capped (tree_mass M t)) is)))

  -- one more mass at the end
  pub weighed_on : length ms ≡ i + 1 → Weighed M es ms i → (v : ℕ) → v ≡ weighed M ms e → Weighed M es (ms ++ v ∷ []) (i + 1)
  weighed_on long inv v ev j h =
      elim (dec_lt i j) [
        | yes b ↦ let ej : j ≡ length ms = omega arith in let ej' : j ≡ suc i = omega arith in
            ap (λ n. get_or (ms ++ v ∷ []) n 0) ej ∙ (get_or-append_seam ms v [] 0 ∙ (ev ∙ (next-mass inv ∙ ap (λ n. capped (tree_mass M (tree M es n))) (sym ej'))))
        | no b ↦ get_or-append ms (v ∷ []) 0 j (omega arith) ∙ inv j (omega arith)
      ]

-- the same, as the loop over the first n entries has it
pub weighed_step : {E : Type 0} (M : Model E) (es xs : List Entry) (n i : ℕ) (d : Entry) (ms seen more : List ℕ) (v : ℕ) → Falls es → All (Coded M) es → xs ≡ es → i < length (take n xs)
    → length ms ≡ i + 1 → Weighed M es ms i → seen ≡ ms → (Coded M 0 (get_or (take n xs) i d) → v ≡ weighed M seen (get_or (take n xs) i d)) → more ≡ ms ++ v ∷ []
    → (length more ≡ i + 1 + 1) × Weighed M es more (i + 1)
weighed_step M es xs n i d ms seen more v fall coded same below long inv is ev grown =
    let e = get_or (take n xs) i d in
    let t = taken_at xs n i d e below in
    let inside : i < length es = omega (arith, t.0, ap length same) in
    let at : e ≡ get_or es i e = t.1 ∙ ap (λ l. get_or l i e) same in
    let ce : Coded M 0 e = subst (Coded M 0) (sym at) (coded i e inside) in
    let w = weighed_on M es i e fall inside at ms long inv v (ev ce ∙ ap (λ l. weighed M l e) is) in
    (omega (arith, long, ap length grown, length-append ms (v ∷ [])), subst (λ l. Weighed M es l (i + 1)) (sym grown) w)
