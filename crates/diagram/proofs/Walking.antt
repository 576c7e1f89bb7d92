-- One step down.
use Rattle.std.proofs.Common.{◌≡◌, ℕ, suc, ◌-◌, ◌<◌, ◌≤◌, Bool, true, false, cond, leb, ◌≢◌, ◌⊎◌, List, length, get_or, pos, Ok, Err, MatchBool, Result, sym, ap, ◌∙◌, subst, inl, inr, le_trans, arith, length-set, MatchResult}
use Rattle.std.proofs.lemmas.Bool.{le-leb}
use Rattle.domain.specs.Answers.{multiplied}
use Rattle.domain.specs.Model.{Model, Sound}
use Rattle.domain.specs.Numbers.{number, no_code}
use Rattle.domain.specs.declared.fault.Fault.{Fault}
use Rattle.domain.specs.declared.fault.Fault.TheVariants.{OverLimit}
use Rattle.domain.specs.declared.number.Number.{Number}
use Rattle.polynomial.specs.Coefficients.{coefficient}
use Rattle.polynomial.specs.Entries.{stands, trees}
use Rattle.polynomial.specs.Trees.{Tree, node, Reduced, Lawful, value}
use Rattle.polynomial.proofs.Canonicity.{le-mass, below_lawful, beside_lawful}
use Rattle.polynomial.proofs.ElementFacts.{facts}
use Rattle.diagram.specs.Checks.{Never}
use Rattle.diagram.specs.Monomials.{Spent, Used, Unused, CoefficientAt, BadMonomial, Found}
use Rattle.diagram.specs.Places.{Lower, Falls}
use Rattle.diagram.specs.Tables.{node_of, nodes, tree, of, Coded, LawfulIn, Kept}
use Rattle.diagram.specs.declared.entry.Edge.{Edge}
use Rattle.diagram.specs.declared.entry.Entry.{Entry}
use Rattle.diagram.specs.declared.entry.Reference.{Reference}
use Rattle.diagram.proofs.Monomials.{leaf_spent, leaf_unspent, node_used, node_unused}
use Rattle.diagram.proofs.Numbering.{tree-at}

module _ {E : Type 0} (M : Model E) (S : Sound M) (a b : Number) (ca : M.coded a ≡ true) (cb : M.coded b ≡ true) (small : M.size (M.ring.mul (M.value a) (M.value b)) ≤ M.limit) where
  abbrev z : E
  z = M.ring.mul (M.value a) (M.value b)

  is_ok : multiplied M a b ≡ Ok (M.code z)
  is_ok =
      ap (λ (t : Bool). cond {A = Result Number Fault} t (cond (M.coded b) (cond (leb (M.size z) M.limit) (Ok (M.code z)) (Err (OverLimit M.limit))) (Err (no_code b))) (Err (no_code a))) ca
      ∙ (ap (λ (t : Bool). cond {A = Result Number Fault} t (cond (leb (M.size z) M.limit) (Ok (M.code z)) (Err (OverLimit M.limit))) (Err (no_code b))) cb
      ∙ ap (λ (t : Bool). cond {A = Result Number Fault} t (Ok (M.code z)) (Err (OverLimit M.limit))) (le-leb (M.size z) M.limit small))

  pub multiplied_ok : (w : Number) → ◌≡◌ {A = Result Number Fault} (Ok w) (multiplied M a b) → w ≡ M.code z
  multiplied_ok w e = let h = e ∙ is_ok in cc

  pub multiplied_err : (f : Fault) → ◌≡◌ {A = Result Number Fault} (Err f) (multiplied M a b) → ⊥
  multiplied_err f e = let h = e ∙ is_ok in let y : ◌≡◌ {A = ℕ} 0 1 = cc in omega arith

module _ {E : Type 0} (M : Model E) (S : Sound M) (es : List Entry) (f : Reference) (k : ℕ) (u : List ℕ) (lu : length u ≡ k) (K : Kept M k es) (L : LawfulIn M es f) where
  abbrev w : E
  w = M.value f.weight

  -- at entry 0
  pub stopped : f.entry ≡ 0 → (b : Bool) → MatchBool b (Spent u) ((i : ℕ) × (i < length u) × (get_or u i 0 ≢ 0)) → (r : Number) → r ≡ cond b f.weight (number (pos 0)) → CoefficientAt M k es f u r
  stopped e true s r q = record {
    coded = subst (λ n. M.coded n ≡ true) (sym q) L.coded;
    is = ap M.value q ∙ sym (ap (λ n. coefficient M.ring k (value M.ring k w (tree M es n)) u) e ∙ leaf_spent M S k w u lu s);
  }
  stopped e false s r q = record {
    coded = subst (λ n. M.coded n ≡ true) (sym q) S.codes.zero.0;
    is = ap M.value q ∙ (S.codes.zero.1 ∙ sym (ap (λ n. coefficient M.ring k (value M.ring k w (tree M es n)) u) e ∙ leaf_unspent M S k w u lu s.0 (omega (arith, s.1, lu)) s.2));
  }

  module _ (fall : Falls es) (some : f.entry ≢ 0) (e : Entry) (at : e ≡ get_or es (f.entry - 1) e) where
    inside : f.entry - 1 < length es
    inside = omega (arith, L.inside, some)

    abbrev p : E
    p = M.value e.additive.weight

    abbrev m : Tree E
    m = tree M es e.additive.target

    abbrev q : E
    q = M.value e.multiplicative.weight

    abbrev n : Tree E
    n = tree M es e.multiplicative.target

    is_t : tree M es f.entry ≡ node e.letter p m q n
    is_t =
        let up : f.entry ≡ suc (f.entry - 1) = omega (arith, some) in
        ap (tree M es) up ∙ (tree-at M es (f.entry - 1) e fall inside ∙ ap (λ (d : Entry). stands (trees (nodes M es)) (node_of M d)) (sym at))

    r : Reduced M k (node e.letter p m q n)
    r = subst (Reduced M k) is_t (K.reduced f.entry L.inside)

    l : Lawful M w (node e.letter p m q n)
    l = subst (Lawful M w) is_t L.lawful

    -- what the next reference is
    record Next (d : Edge) (v : List ℕ) : Type 0 where
      pub coded : M.coded d.weight ≡ true
      pub small : M.size (M.ring.mul w (M.value d.weight)) ≤ M.limit
      pub lawful : Lawful M (M.ring.mul w (M.value d.weight)) (tree M es d.target)
      pub long : length v ≡ k
      pub known : d.target ≤ length es
      pub same : coefficient M.ring k (of M k es f) u ≡ coefficient M.ring k (value M.ring k (M.ring.mul w (M.value d.weight)) (tree M es d.target)) v

    low : Lower (f.entry - 1) e
    low = subst (Lower (f.entry - 1)) (sym at) (fall (f.entry - 1) e inside)

    codes : Coded M 0 e
    codes = subst (Coded M 0) (sym at) (K.coded (f.entry - 1) e inside)

    next : (d : Edge) (v : List ℕ) → Used e u v d ⊎ Unused e u v d → Next d v
    next d v (inl U) =
        subst (λ c. Next c v) (sym U.edge) (subst (Next e.multiplicative) (sym U.less) (record {
          coded = codes.1;
          small = le_trans (le-mass M (facts S) k (M.ring.mul w q) n r.beside) (beside_lawful M (facts S) k e.letter p m q n r w l).light;
          lawful = beside_lawful M (facts S) k e.letter p m q n r w l;
          long = length-set u e.letter U.rest ∙ lu;
          known = omega (arith, low.1, inside);
          same = ap (λ t. coefficient M.ring k (value M.ring k w t) u) is_t ∙ node_used M S k w u lu e.letter p m q n r U.rest U.some;
        }))
    next d v (inr U) =
        subst (λ c. Next c v) (sym U.edge) (subst (Next e.additive) (sym U.same) (record {
          coded = codes.0;
          small = le_trans (le-mass M (facts S) k (M.ring.mul w p) m r.below) (below_lawful M (facts S) k e.letter p m q n r w l).light;
          lawful = below_lawful M (facts S) k e.letter p m q n r w l;
          long = lu;
          known = omega (arith, low.0, inside);
          same = ap (λ t. coefficient M.ring k (value M.ring k w t) u) is_t ∙ node_unused M S k w u lu e.letter p m q n r (U.none (omega (arith, r.known, lu)));
        }))

    -- the product of the weights is never refused
    pub never : (d : Edge) (v : List ℕ) → Used e u v d ⊎ Unused e u v d → (b : Fault) → ◌≡◌ {A = Result Number Fault} (Err b) (multiplied M f.weight d.weight) → ⊥
    never d v s = let N = next d v s in multiplied_err M S f.weight d.weight L.coded N.coded N.small

    -- the coefficient is that of the next reference, which is lawful
    walked_at : (d : Edge) (v : List ℕ) → Used e u v d ⊎ Unused e u v d → (c : Number) → ◌≡◌ {A = Result Number Fault} (Ok c) (multiplied M f.weight d.weight) → (y : Result Number Fault)
        → (Kept M k es → LawfulIn M es (record { weight = c; entry = d.target }) → MatchResult y (CoefficientAt M k es (record { weight = c; entry = d.target }) v) (λ _. ⊥))
        → MatchResult y (CoefficientAt M k es f u) (λ _. ⊥)
    walked_at d v s c ok y h = go y (h K lawful)
      where
        N : Next d v
        N = next d v s

        x : E
        x = M.ring.mul w (M.value d.weight)

        is_c : c ≡ M.code x
        is_c = multiplied_ok M S f.weight d.weight L.coded N.coded N.small c ok

        value_c : M.value c ≡ x
        value_c = ap M.value is_c ∙ (S.codes.has x N.small).1

        lawful : LawfulIn M es (record { weight = c; entry = d.target })
        lawful = record {
          coded = subst (λ i. M.coded i ≡ true) (sym is_c) (S.codes.has x N.small).0;
          inside = N.known;
          lawful = subst (λ i. Lawful M i (tree M es d.target)) (sym value_c) N.lawful;
        }

        go : (y : Result Number Fault) → MatchResult y (CoefficientAt M k es (record { weight = c; entry = d.target }) v) (λ _. ⊥) → MatchResult y (CoefficientAt M k es f u) (λ _. ⊥)
        go (Ok z) C =
            record { coded = C.coded; is = C.is ∙ (ap (λ i. coefficient M.ring k (value M.ring k i (tree M es d.target)) v) value_c ∙ sym N.same) }
        go (Err b) C = C

    pub walked : (d : Edge) (v : List ℕ) → Used e u v d ⊎ Unused e u v d → (next : Reference) → (next.entry ≡ d.target) × ◌≡◌ {A = Result Number Fault} (Ok next.weight) (multiplied M f.weight d.weight) → (y : Result Number Fault)
        → (Kept M k es → LawfulIn M es next → MatchResult y (CoefficientAt M k es next v) (λ _. ⊥))
        → MatchResult y (CoefficientAt M k es f u) (λ _. ⊥)
    walked d v s next is y h =
        walked_at d v s next.weight is.1 y
        (subst (λ i. Kept M k es → LawfulIn M es (record { weight = next.weight; entry = i }) → MatchResult y (CoefficientAt M k es (record { weight = next.weight; entry = i }) v) (λ _. ⊥)) is.0 h)

-- how the call ends
module _ {E : Type 0} (M : Model E) (es : List Entry) (f : Reference) (u v : List ℕ) (k : ℕ) (same : v ≡ u) (long : length u ≡ k) (L : LawfulIn M es f) where
  pub found : (r : Result Number Fault) → MatchResult r (CoefficientAt M k es f v) (λ _. ⊥) → MatchResult r (Found M k es f u) (BadMonomial M k es f u Never)
  found (Ok w) C = record { lawful = L; long = long; coefficient_at = subst (λ z. CoefficientAt M k es f z w) same C }
  found (Err e) C = absurd C
