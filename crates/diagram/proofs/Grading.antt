-- The degrees of the entries, one after the other.
use Rattle.std.proofs.Common.{◌≡◌, ℕ, zero, suc, ◌+◌, ◌<◌, ◌≤◌, max, List, [], ◌∷◌, ◌++◌, length, get_or, take, Fits, w64, sym, ap, ◌∙◌, subst, ap₂, arith, length-append}
use lib.ListN.{get_or-append}
use lib.Seq.{get_or-append_seam}
use native.Mathlib.Decide.{dec_lt}
use Rattle.std.proofs.Math.Nat.{max-le}
use Rattle.domain.specs.Model.{Model}
use Rattle.polynomial.specs.Entries.{stands, trees}
use Rattle.polynomial.specs.Trees.{tree_degree}
use Rattle.diagram.specs.Places.{Lower, Falls}
use Rattle.diagram.specs.Tables.{node_of, nodes, tree}
use Rattle.diagram.specs.declared.entry.Entry.{Entry}
use Rattle.diagram.proofs.Listing.{taken_at}
use Rattle.diagram.proofs.Numbering.{tree-at}

-- the degrees of the numbers up to i
abbrev pub Graded : {E : Type 0} → Model E → List Entry → List ℕ → ℕ → Type 0
Graded M es ds i = (j : ℕ) → j ≤ i → get_or ds j 0 ≡ tree_degree (tree M es j)

module _ {E : Type 0} (M : Model E) where
  -- the degree of an entry from those of its edges
  next_degree : (es : List Entry) (i : ℕ) (e : Entry) → Falls es → i < length es → e ≡ get_or es i e → tree_degree (tree M es (suc i)) ≡ max (tree_degree (tree M es e.additive.target)) (1 + tree_degree (tree M es e.multiplicative.target))
  next_degree es i e fall inside at = ap tree_degree (tree-at M es i e fall inside ∙ ap (λ (d : Entry). stands (trees (nodes M es)) (node_of M d)) (sym at))

  -- no degree is higher than the number
  degree_below : (es : List Entry) → Falls es → (b n : ℕ) → n ≤ b → n ≤ length es → tree_degree (tree M es n) ≤ n
  degree_below es fall b zero h l = omega arith
  degree_below es fall zero (suc i) h l = absurd (omega arith)
  degree_below [] fall (suc b) (suc i) h l = absurd (omega arith)
  degree_below (d ∷ es) fall (suc b) (suc i) h l =
      let all = d ∷ es in
      let e : Entry = get_or all i d in
      let low = fall i d (omega arith) in
      let a = degree_below all fall b e.additive.target (omega (arith, low.0)) (omega (arith, low.0)) in
      let c = degree_below all fall b e.multiplicative.target (omega (arith, low.1)) (omega (arith, low.1)) in
      subst (λ n. n ≤ suc i) (sym (ap tree_degree (tree-at M all i d fall (omega arith)))) (max-le (omega (arith, a, low.0)) (omega (arith, c, low.1)))

  pub degree_low : (es : List Entry) → Falls es → (n : ℕ) → n ≤ length es → tree_degree (tree M es n) ≤ n
  degree_low es fall n l = degree_below es fall n n (omega arith) l

  -- what the loop over the first n entries reads of the edges, and one more degree at the end
  module _ (es xs : List Entry) (n i : ℕ) (d : Entry) (ds seen : List ℕ) (fall : Falls es) (same : xs ≡ es) (below : i < length (take n xs)) (long : length ds ≡ i + 1) (inv : Graded M es ds i) (is : seen ≡ ds) where
    abbrev e : Entry
    e = get_or (take n xs) i d

    inside : i < length es
    inside = let t = taken_at xs n i d e below in omega (arith, t.0, ap length same)

    at : e ≡ get_or es i e
    at = (taken_at xs n i d e below).1 ∙ ap (λ l. get_or l i e) same

    low : Lower i e
    low = subst (Lower i) (sym at) (fall i e inside)

    low_is : get_or seen e.additive.target 0 ≡ tree_degree (tree M es e.additive.target)
    low_is = ap (λ l. get_or l e.additive.target 0) is ∙ inv e.additive.target low.0

    high_is : get_or seen e.multiplicative.target 0 ≡ tree_degree (tree M es e.multiplicative.target)
    high_is = ap (λ l. get_or l e.multiplicative.target 0) is ∙ inv e.multiplicative.target low.1

    pub high_fits : length es ≤ 1024 → Fits w64 (1 + get_or seen e.multiplicative.target 0)
    high_fits few = omega (arith, high_is, degree_low es fall e.multiplicative.target (omega (arith, low.1, inside)), low.1, inside)

    pub graded_step : (v : ℕ) (more : List ℕ) → v ≡ max (get_or seen e.additive.target 0) (1 + get_or seen e.multiplicative.target 0) → more ≡ ds ++ v ∷ [] → (length more ≡ i + 1 + 1) × Graded M es more (i + 1)
    graded_step v more ev grown =
        (omega (arith, long, ap length grown, length-append ds (v ∷ [])), subst (λ l. Graded M es l (i + 1)) (sym grown) go)
      where
        go : Graded M es (ds ++ v ∷ []) (i + 1)
        go j h =
            elim (dec_lt i j) [
              | yes b ↦ let ej : j ≡ length ds = omega arith in let ej' : j ≡ suc i = omega arith in
                  ap (λ n. get_or (ds ++ v ∷ []) n 0) ej
                  ∙ (get_or-append_seam ds v [] 0 ∙ (ev ∙ (ap₂ (λ y z. max y (1 + z)) low_is high_is ∙ (sym (next_degree es i e fall inside at) ∙ ap (λ n. tree_degree (tree M es n)) (sym ej')))))
              | no b ↦ get_or-append ds (v ∷ []) 0 j (omega arith) ∙ inv j (omega arith)
            ]
