-- The parts of a line, by the codes of the entries.
use Rattle.std.proofs.Common.{◌≡◌, ℕ, suc, ◌-◌, ◌≤◌, Bool, true, false, ◌&&◌, cond, eqb, ◌≢◌, ◌⊎◌, List, [], ◌∷◌, ◌++◌, length, get_or, ℤ, pos, codes, sym, refl, ap, ◌∙◌, inl, inr, arith}
use mathlib.Core.Bool.{false≢true}
use Rattle.std.proofs.lemmas.Bool.{eqb-true, eqb-false}
use Rattle.std.proofs.lemmas.Bool.Decides.{Decides-int_eq}
use Rattle.std.specs.Fmt.{signed_decimal}
use Rattle.std.specs.Ordering.{int_eq}
use Rattle.domain.specs.Model.{Model, Sound}
use Rattle.domain.specs.Numbers.{number, is_zero as zero_code}
use Rattle.domain.specs.declared.number.Number.{Number}
use Rattle.polynomial.specs.Entries.{stands, trees}
use Rattle.polynomial.specs.Trees.{Tree, leaf, node}
use Rattle.diagram.specs.Lines.{has_code, is_leaf, weight_text, reference_text, times_text, plus_text, entry_text, line}
use Rattle.diagram.specs.Places.{Falls}
use Rattle.diagram.specs.Tables.{node_of, nodes, tree}
use Rattle.diagram.specs.declared.entry.Edge.{Edge}
use Rattle.diagram.specs.declared.entry.Entry.{Entry}
use Rattle.diagram.proofs.Numbering.{tree-at, leaf_zero}

module _ {E : Type 0} (M : Model E) (S : Sound M) (ls : List ℕ) (es : List Entry) (fall : Falls es) where
  -- the line of a weight and an entry by its number
  abbrev pub text : Number → ℕ → List ℕ
  text w n = line M ls (M.value w) (tree M es n)

  -- the text of an entry by its number
  abbrev pub whole : ℕ → List ℕ
  whole n = entry_text M ls (tree M es n)

  own : (w : Number) → M.coded w ≡ true → weight_text M (M.value w) ≡ signed_decimal w.int
  own w c = ap (λ (a : Number). signed_decimal a.int) (S.codes.only w c)

  own_code : (w : Number) (z : ℤ) → M.coded w ≡ true → has_code M (M.value w) z ≡ int_eq w.int z
  own_code w z c = ap (λ (a : Number). int_eq a.int z) (S.codes.only w c)

  -- at number 0
  pub text_zero : (w : Number) (n : ℕ) → M.coded w ≡ true → n ≡ 0 → text w n ≡ signed_decimal w.int
  text_zero w n c e = ap (λ k. text w k) e ∙ own w c

  module _ (n : ℕ) (some : n ≢ 0) (inside : n ≤ length es) where
    -- the entry there
    module _ (e : Entry) (at : e ≡ get_or es (n - 1) e) where
      abbrev unfolded : Tree E
      unfolded = node e.letter (M.value e.additive.weight) (tree M es e.additive.target) (M.value e.multiplicative.weight) (tree M es e.multiplicative.target)

      is_tree : tree M es n ≡ unfolded
      is_tree =
          let up : n ≡ suc (n - 1) = omega (arith, some) in
          ap (tree M es) up ∙ (tree-at M es (n - 1) e fall (omega (arith, some, inside)) ∙ ap (λ (d : Entry). stands (trees (nodes M es)) (node_of M d)) (sym at))

      pub whole_is : whole n ≡ get_or ls e.letter 0 ∷ (times_text M (M.value e.multiplicative.weight) (tree M es e.multiplicative.target) (whole e.multiplicative.target) ++ plus_text M (M.value e.additive.weight) (tree M es e.additive.target) (whole e.additive.target))
      whole_is = ap (entry_text M ls) is_tree

    no_leaf : is_leaf (tree M es n) ≡ false
    no_leaf = go (tree M es n) (λ e. some (leaf_zero M es n fall inside e))
      where
        go : (t : Tree E) → t ≢ leaf → is_leaf t ≡ false
        go leaf h = absurd (h refl)
        go (node x p m q k) h = refl

    by_node : (w : E) (s : List ℕ) → reference_text M w (tree M es n) s ≡ cond (has_code M w (pos 1)) s (weight_text M w ++ (codes "*(" ++ (s ++ codes ")")))
    by_node w s = go (tree M es n) no_leaf
      where
        go : (t : Tree E) → is_leaf t ≡ false → reference_text M w t s ≡ cond (has_code M w (pos 1)) s (weight_text M w ++ (codes "*(" ++ (s ++ codes ")")))
        go leaf h = absurd (let z : ◌≡◌ {A = ℕ} 0 1 = cc h in omega arith)
        go (node x p m q k) h = refl

    -- with weight 1, and with another
    pub text_one : (w : Number) → M.coded w ≡ true → int_eq w.int (pos 1) ≡ true → text w n ≡ whole n
    text_one w c e =
        by_node (M.value w) (whole n) ∙ ap (λ (b : Bool). cond b (whole n) (weight_text M (M.value w) ++ (codes "*(" ++ (whole n ++ codes ")")))) (own_code w (pos 1) c ∙ e)

    pub text_some : (w : Number) → M.coded w ≡ true → int_eq w.int (pos 1) ≡ false → text w n ≡ signed_decimal w.int ++ (codes "*(" ++ (whole n ++ codes ")"))
    text_some w c e =
        by_node (M.value w) (whole n)
        ∙ (ap (λ (b : Bool). cond b (whole n) (weight_text M (M.value w) ++ (codes "*(" ++ (whole n ++ codes ")")))) (own_code w (pos 1) c ∙ e)
        ∙ ap (λ s. s ++ (codes "*(" ++ (whole n ++ codes ")"))) (own w c))

  -- what an edge adds
  module _ (a : Edge) (inside : a.target ≤ length es) (c : M.coded a.weight ≡ true) where
    abbrev pub times_is : List ℕ
    times_is = times_text M (M.value a.weight) (tree M es a.target) (whole a.target)

    abbrev pub plus_is : List ℕ
    plus_is = plus_text M (M.value a.weight) (tree M es a.target) (whole a.target)

    leaf_told : is_leaf (tree M es a.target) ≡ eqb a.target 0
    leaf_told = go (eqb a.target 0) refl
      where
        go : (b : Bool) → eqb a.target 0 ≡ b → is_leaf (tree M es a.target) ≡ b
        go true q = ap (λ k. is_leaf (tree M es k)) (eqb-true a.target 0 q)
        go false q = no_leaf a.target (eqb-false a.target 0 q) inside

    times_some : (int_eq a.weight.int (pos 1) && eqb a.target 0) ≡ false → times_is ≡ codes "*(" ++ (text a.weight a.target ++ codes ")")
    times_some e = ap (λ (b : Bool). cond b [] (codes "*(" ++ (text a.weight a.target ++ codes ")"))) (ap (λ (b : Bool). b && is_leaf (tree M es a.target)) (own_code a.weight (pos 1) c) ∙ (ap (λ (b : Bool). int_eq a.weight.int (pos 1) && b) leaf_told ∙ e))

    -- the same, by the branches of a test
    pub times_told : (r : Bool) → r ≡ int_eq a.weight.int (pos 1) → ((r ≡ true) × (a.target ≡ 0 → ⊥)) ⊎ (r ≡ false) → times_is ≡ codes "*(" ++ (text a.weight a.target ++ codes ")")
    times_told r is (inl h) = times_some (ap (λ (b : Bool). b && eqb a.target 0) (sym is ∙ h.0) ∙ go (eqb a.target 0) refl)
      where
        go : (b : Bool) → eqb a.target 0 ≡ b → b ≡ false
        go true q = absurd (h.1 (eqb-true a.target 0 q))
        go false q = refl
    times_told r is (inr h) = times_some (ap (λ (b : Bool). b && eqb a.target 0) (sym is ∙ h))

    pub plus_some : zero_code a.weight ≡ false → plus_is ≡ codes "+" ++ text a.weight a.target
    plus_some e =
        ap (λ (b : Bool). cond b [] (codes "+" ++ text a.weight a.target)) (own_code a.weight (pos 0) c ∙ go (int_eq a.weight.int (pos 0)) refl)
      where
        go : (b : Bool) → int_eq a.weight.int (pos 0) ≡ b → b ≡ false
        go true q = absurd (false≢true (sym e ∙ ap (λ z. zero_code (number z)) ((Decides-int_eq a.weight.int (pos 0)).0 q)))
        go false q = refl
