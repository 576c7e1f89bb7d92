-- The entries that are reached are the diagram.
use Rattle.std.proofs.Common.{◌≡◌, ℕ, zero, suc, ◌<◌, ◌≤◌, List, [], ◌∷◌, length, get_or, sym, refl, ap, ◌∙◌, subst, inl, inr, arith}
use Rattle.domain.specs.Model.{Model, Sound}
use Rattle.polynomial.specs.Diagrams.{Inside, Diagram}
use Rattle.polynomial.specs.Entries.{stands, trees}
use Rattle.polynomial.specs.Lists.{Among, Distinct}
use Rattle.polynomial.specs.Trees.{Tree, leaf, node}
use Rattle.polynomial.proofs.Theorems.{least_entries}
use Rattle.diagram.specs.Counting.{Reached, here, low, high, Counted, LeastCount}
use Rattle.diagram.specs.Places.{Falls}
use Rattle.diagram.specs.Tables.{node_of, nodes, tree, LawfulIn, Kept}
use Rattle.diagram.specs.declared.entry.Entry.{Entry}
use Rattle.diagram.specs.declared.entry.Reference.{Reference}
use Rattle.diagram.proofs.Listing.{get_or-any}
use Rattle.diagram.proofs.Numbering.{tree-at, tree_inj}

inside_trans : {E : Type 0} (a b c : Tree E) → Inside a b → Inside b c → Inside a c
inside_trans a b leaf i j = absurd j
inside_trans a b (node x p m q n) i (inl e) = subst (Inside a) e i
inside_trans a b (node x p m q n) i (inr (inl j)) = inr (inl (inside_trans a b m i j))
inside_trans a b (node x p m q n) i (inr (inr j)) = inr (inr (inside_trans a b n i j))

entry_at : (es : List Entry) (i : ℕ) → i < length es → (e : Entry) × (get_or es i e ≡ e)
entry_at [] i h = absurd (omega arith)
entry_at (d ∷ es) i h = (get_or (d ∷ es) i d, get_or-any (d ∷ es) i (get_or (d ∷ es) i d) d h)

module _ {E : Type 0} (M : Model E) (es : List Entry) (fall : Falls es) where
  at_is : (i : ℕ) (e : Entry) → i < length es → get_or es i e ≡ e → tree M es (suc i) ≡ stands (trees (nodes M es)) (node_of M e)
  at_is i e h at = tree-at M es i e fall h ∙ ap (λ (d : Entry). stands (trees (nodes M es)) (node_of M d)) at

  itself : (i : ℕ) → i < length es → Inside (tree M es (suc i)) (tree M es (suc i))
  itself i h = go es fall i h
    where
      go : (es : List Entry) → Falls es → (i : ℕ) → i < length es → Inside (tree M es (suc i)) (tree M es (suc i))
      go [] f i h = absurd (omega arith)
      go (d ∷ es) f i h = let q = tree-at M (d ∷ es) i d f h in subst (λ t. Inside t t) (sym q) (inl refl)

  module _ (n : ℕ) (inside : n ≤ length es) where
    reached_low : (j : ℕ) → Reached es n j → j ≤ n
    reached_low j here = omega arith
    reached_low j (low i e h at r) = let p = reached_low (suc i) r in let f = fall i e h in omega (arith, p, f.0, ap (λ (d : Entry). d.additive.target) at)
    reached_low j (high i e h at r) = let p = reached_low (suc i) r in let f = fall i e h in omega (arith, p, f.1, ap (λ (d : Entry). d.multiplicative.target) at)

    edge_inside : (j : ℕ) → 1 ≤ j → j ≤ n → Inside (tree M es j) (tree M es j)
    edge_inside zero a b = absurd (omega arith)
    edge_inside (suc i) a b = itself i (omega arith)

    reached_inside : (j : ℕ) → 1 ≤ j → Reached es n j → Inside (tree M es j) (tree M es n)
    reached_inside j some here = edge_inside j some (omega arith)
    reached_inside j some (low i e h at r) =
        let p = reached_low j (low i e h at r) in
        inside_trans (tree M es j) (tree M es (suc i)) (tree M es n)
        (subst (Inside (tree M es j)) (sym (at_is i e h at)) (inr (inl (edge_inside j some p)))) (reached_inside (suc i) (omega arith) r)
    reached_inside j some (high i e h at r) =
        let p = reached_low j (high i e h at r) in
        inside_trans (tree M es j) (tree M es (suc i)) (tree M es n)
        (subst (Inside (tree M es j)) (sym (at_is i e h at)) (inr (inr (edge_inside j some p)))) (reached_inside (suc i) (omega arith) r)

    -- what is inside has a number that is reached
    inside_reached : (s : Tree E) (t : Tree E) (j : ℕ) → Reached es n j → t ≡ tree M es j → Inside s t → (i : ℕ) × (1 ≤ i) × Reached es n i × (s ≡ tree M es i)
    inside_reached s t zero r q i = absurd (subst (Inside s) q i)
    inside_reached s leaf (suc j) r q i = absurd i
    inside_reached s (node x p m q t) (suc j) r e (inl z) = (suc j, omega arith, r, z ∙ e)
    inside_reached s (node x p m q t) (suc j) r e (inr (inl z)) =
        let h : j < length es = omega (arith, reached_low (suc j) r) in
        let d = entry_at es j h in
        let whole : node x p m q t ≡ stands (trees (nodes M es)) (node_of M d.0) = e ∙ at_is j d.0 h d.1 in
        let is : m ≡ tree M es d.0.additive.target = cc in
        inside_reached s m d.0.additive.target (low j d.0 h d.1 r) is z
    inside_reached s (node x p m q t) (suc j) r e (inr (inr z)) =
        let h : j < length es = omega (arith, reached_low (suc j) r) in
        let d = entry_at es j h in
        let whole : node x p m q t ≡ stands (trees (nodes M es)) (node_of M d.0) = e ∙ at_is j d.0 h d.1 in
        let is : t ≡ tree M es d.0.multiplicative.target = cc in
        inside_reached s t d.0.multiplicative.target (high j d.0 h d.1 r) is z

  abbrev trees_of : List ℕ → List (Tree E)
  trees_of [] = []
  trees_of (j ∷ js) = tree M es j ∷ trees_of js

  length-of : (js : List ℕ) → length (trees_of js) ≡ length js
  length-of [] = refl
  length-of (j ∷ js) = ap suc (length-of js)

  among_of : (js : List ℕ) (s : Tree E) → Among s (trees_of js) → (j : ℕ) × Among j js × (s ≡ tree M es j)
  among_of [] s a = absurd a
  among_of (j ∷ js) s (inl q) = (j, inl refl, q)
  among_of (j ∷ js) s (inr a) = let h = among_of js s a in (h.0, inr h.1, h.2)

  of_among : (js : List ℕ) (j : ℕ) (s : Tree E) → Among j js → s ≡ tree M es j → Among s (trees_of js)
  of_among [] j s a e = absurd a
  of_among (i ∷ js) j s (inl q) e = inl (e ∙ ap (tree M es) q)
  of_among (i ∷ js) j s (inr a) e = inr (of_among js j s a e)

  distinct_of : Distinct (trees (nodes M es)) → (js : List ℕ) → Distinct js → ((j : ℕ) → Among j js → j ≤ length es) → Distinct (trees_of js)
  distinct_of D [] d known = tt
  distinct_of D (j ∷ js) d known = (
    λ a. let h = among_of js (tree M es j) a in
        d.0 (subst (λ i. Among i js) (sym (tree_inj M es fall D j h.0 (known j (inl refl)) (known h.0 (inr h.1)) h.2)) h.1),
    distinct_of D js d.1 (λ i a. known i (inr a)),
  )

  -- how many entries are reached is the number of entries of the diagram
  pub least_count : (S : Sound M) (k : ℕ) → Kept M k es → (f : Reference) → LawfulIn M es f → (c : ℕ) → Counted es f.entry c → LeastCount M k es f c
  least_count S k K f L c C =
      let js = C.numbers in
      let n = f.entry in
      let D : Diagram (tree M es n) (trees_of js) = record {
        distinct = distinct_of K.distinct js C.distinct (λ j a. let h = reached_low n L.inside j ((C.all j).0 a).1 in omega (arith, h, L.inside));
        inside = λ s a. let h = among_of js s a in let r = (C.all h.0).0 h.1 in subst (λ t. Inside t (tree M es n)) (sym h.2) (reached_inside n L.inside h.0 r.0 r.1);
        all = λ s i. let h = inside_reached n L.inside s (tree M es n) n here refl i in of_among js h.0 s ((C.all h.0).1 (h.1, h.2)) h.3;
      } in
      let e : c ≡ length (trees_of js) = C.count ∙ sym (length-of js) in
      record {
        entries = trees_of js;
        diagram = D;
        count = e;
        least = λ rivals R. let h = least_entries M S k (tree M es n) (K.reduced n L.inside) (M.value f.weight) L.lawful (trees_of js) D rivals R in omega (arith, h, e);
      }
