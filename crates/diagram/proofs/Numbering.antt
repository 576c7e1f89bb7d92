-- The trees that numbers stand for.
use Rattle.std.proofs.Common.{◌≡◌, ℕ, zero, suc, ◌+◌, ◌<◌, ◌≤◌, true, ◌≢◌, List, [], ◌∷◌, ◌++◌, length, get_or, sym, refl, ap, ◌∙◌, subst, arith, length-append}
use Rattle.domain.specs.Model.{Model, Sound}
use Rattle.domain.specs.declared.number.Number.{Number}
use Rattle.polynomial.specs.Entries.{Entry as Node, look, stands, trees, Edges, Linked}
use Rattle.polynomial.specs.Lists.{Distinct}
use Rattle.polynomial.specs.Trees.{Tree, leaf, node, Lawful, value}
use Rattle.polynomial.proofs.GrowingTrees.{look-append, look_last}
use Rattle.polynomial.proofs.GrowthLaws.{news, trees-append}
use Rattle.polynomial.proofs.KnownEntries.{get_or-among, linked_of, unrolled}
use Rattle.polynomial.proofs.Minimality.{length-trees}
use Rattle.polynomial.proofs.Pigeonhole.{among_eq}
use Rattle.diagram.specs.Places.{Falls}
use Rattle.diagram.specs.Tables.{node_of, nodes, tree, Stays}
use Rattle.diagram.specs.declared.entry.Entry.{Entry}

pub node_not_leaf : {E : Type 0} (x : ℕ) (a : E) (m : Tree E) (b : E) (n : Tree E) → node x a m b n ≢ leaf
node_not_leaf x a m b n e = let z : ◌≡◌ {A = ℕ} 0 1 = cc in omega arith

module _ {E : Type 0} (M : Model E) where
  pub nodes-append : (es fs : List Entry) → nodes M (es ++ fs) ≡ nodes M es ++ nodes M fs
  nodes-append [] fs = refl
  nodes-append (e ∷ es) fs = ap (λ (l : List (Node E)). node_of M e ∷ l) (nodes-append es fs)

  pub length-nodes : (es : List Entry) → length (nodes M es) ≡ length es
  length-nodes [] = refl
  length-nodes (e ∷ es) = ap suc (length-nodes es)

  pub length_all : (es : List Entry) → length (trees (nodes M es)) ≡ length es
  length_all es = length-trees (nodes M es) ∙ length-nodes es

  -- appending keeps the trees of lower numbers
  pub tree_more : (es fs : List Entry) (n : ℕ) → n ≤ length es → tree M (es ++ fs) n ≡ tree M es n
  tree_more es fs n h =
      ap (λ (l : List (Node E)). look (trees l) n) (nodes-append es fs)
      ∙ (ap (λ (ts : List (Tree E)). look ts n) (trees-append (nodes M es) (nodes M fs)) ∙ look-append (trees (nodes M es)) (news (trees (nodes M es)) (nodes M fs)) n (omega (arith, length_all es)))

  -- the tree of an entry that is put at the end
  pub tree_last : (es : List Entry) (e : Entry) → tree M (es ++ (e ∷ [])) (suc (length es)) ≡ stands (trees (nodes M es)) (node_of M e)
  tree_last es e =
      let T = trees (nodes M es) in
      ap (λ (l : List (Node E)). look (trees l) (suc (length es))) (nodes-append es (e ∷ []))
      ∙ (ap (λ (ts : List (Tree E)). look ts (suc (length es))) (trees-append (nodes M es) (node_of M e ∷ []))
      ∙ (ap (λ (n : ℕ). get_or (T ++ (stands T (node_of M e) ∷ [])) n leaf) (sym (length_all es)) ∙ look_last T (stands T (node_of M e))))

  get_or-nodes : (es : List Entry) (i : ℕ) (d : Entry) → get_or (nodes M es) i (node_of M d) ≡ node_of M (get_or es i d)
  get_or-nodes [] i d = refl
  get_or-nodes (e ∷ es) zero d = refl
  get_or-nodes (e ∷ es) (suc i) d = get_or-nodes es i d

  pub linked : (es : List Entry) → Falls es → Linked 0 (nodes M es)
  linked [] f = tt
  linked (e ∷ es) f =
      linked_of (node_of M e) (nodes M (e ∷ es)) 0
      (λ i l. let g = f i e (omega (arith, length-nodes (e ∷ es))) in subst (Edges (0 + i)) (sym (get_or-nodes (e ∷ es) i e)) (record { lo = omega arith; hi = omega arith }))

  -- the tree with a number, by the entry there
  pub tree-at : (es : List Entry) (i : ℕ) (d : Entry) → Falls es → i < length es → tree M es (suc i) ≡ stands (trees (nodes M es)) (node_of M (get_or es i d))
  tree-at es i d f h =
      unrolled (node_of M d) (nodes M es) (linked es f) i (omega (arith, length-nodes es)) ∙ ap (stands (trees (nodes M es))) (get_or-nodes es i d)

  -- only number 0 stands for 1
  pub tree_node : (es : List Entry) (i : ℕ) → Falls es → i < length es → tree M es (suc i) ≢ leaf
  tree_node [] i f h e = absurd (omega arith)
  tree_node (d ∷ es) i f h e = node_not_leaf _ _ _ _ _ (sym (tree-at (d ∷ es) i d f h) ∙ e)

  pub leaf_zero : (es : List Entry) (n : ℕ) → Falls es → n ≤ length es → tree M es n ≡ leaf → n ≡ 0
  leaf_zero es zero f h e = refl
  leaf_zero es (suc i) f h e = absurd (tree_node es i f h e)

  -- in a table without twins, a tree has one number
  get_or-inj : (ts : List (Tree E)) → Distinct ts → (i j : ℕ) → i < length ts → j < length ts → get_or ts i leaf ≡ get_or ts j leaf → i ≡ j
  get_or-inj [] d i j h g e = absurd (omega arith)
  get_or-inj (t ∷ ts) d zero zero h g e = refl
  get_or-inj (t ∷ ts) d zero (suc j) h g e = absurd (d.0 (among_eq t (get_or ts j leaf) ts e (get_or-among ts j (omega arith))))
  get_or-inj (t ∷ ts) d (suc i) zero h g e = absurd (d.0 (among_eq t (get_or ts i leaf) ts (sym e) (get_or-among ts i (omega arith))))
  get_or-inj (t ∷ ts) d (suc i) (suc j) h g e = ap suc (get_or-inj ts d.1 i j (omega arith) (omega arith) e)

  pub tree_inj : (es : List Entry) → Falls es → Distinct (trees (nodes M es)) → (m n : ℕ) → m ≤ length es → n ≤ length es → tree M es m ≡ tree M es n → m ≡ n
  tree_inj es f d zero n h g e = sym (leaf_zero es n f g (sym e))
  tree_inj es f d (suc i) zero h g e = leaf_zero es (suc i) f h e
  tree_inj es f d (suc i) (suc j) h g e = let l = length_all es in ap suc (get_or-inj (trees (nodes M es)) d i j (omega arith) (omega arith) e)

  -- appending keeps lawful references, and what they stand for
  pub stays : (k : ℕ) (es fs : List Entry) → Stays M k es (es ++ fs)
  stays k es fs f h =
      let t = tree_more es fs f.entry h.inside in (
        record {
          coded = h.coded;
          inside = omega (arith, length-append es fs, h.inside);
          lawful = subst (Lawful M (M.value f.weight)) (sym t) h.lawful;
        },
        ap (value M.ring k (M.value f.weight)) t,
      )

  module _ (S : Sound M) where
    pub code_inj : (v w : Number) → M.coded v ≡ true → M.coded w ≡ true → M.value v ≡ M.value w → v ≡ w
    code_inj v w cv cw e = sym (S.codes.only v cv) ∙ (ap M.code e ∙ S.codes.only w cw)
