-- An entry that is found, appended, or refused.
use Rattle.std.proofs.Common.{◌≡◌, ℕ, suc, ◌*◌, ◌<◌, ◌≤◌, Bool, true, false, ◌≢◌, List, [], ◌∷◌, ◌++◌, length, sym, ap, ◌∙◌, subst, ap₂, inl, inr, append-nil, mul-le-mul_right, zero-mul as zero-mul-ℕ, arith, length-append}
use mathlib.Core.Bool.{false≢true}
use native.Mathlib.Decide.{dec_lt}
use Rattle.domain.specs.Model.{Model, Sound}
use Rattle.domain.specs.Numbers.{is_zero as zero_code}
use Rattle.domain.specs.declared.fault.Fault.{Fault}
use Rattle.domain.specs.declared.fault.Fault.TheVariants.{Full}
use Rattle.domain.specs.declared.number.Number.{Number}
use Rattle.polynomial.specs.Elements.{is_zero, factor}
use Rattle.polynomial.specs.Entries.{Entry as Node, stands, trees, Edges}
use Rattle.polynomial.specs.Growth.{Grown}
use Rattle.polynomial.specs.Lists.{Among}
use Rattle.polynomial.specs.Trees.{Tree, leaf, node, Reduced, tree_mass, Lawful, make}
use Rattle.polynomial.proofs.Canonicity.{size_pos}
use Rattle.polynomial.proofs.Capacity.{full_one}
use Rattle.polynomial.proofs.ElementFacts.{facts, is_zero_code, factor_code, code_zero}
use Rattle.polynomial.proofs.GrowthLaws.{grown_none, grown_same, overfull_more}
use Rattle.polynomial.proofs.KnownEntries.{known_entry, grown_entry}
use Rattle.polynomial.proofs.Making.{Made, made}
use Rattle.polynomial.proofs.Minimality.{look_among}
use Rattle.polynomial.proofs.Pigeonhole.{among_eq}
use Rattle.diagram.specs.Nodes.{Moved, Numbered, Joins, joint, Wanted, Joined, Denied}
use Rattle.diagram.specs.Places.{All, Absent, Falls}
use Rattle.diagram.specs.Tables.{node_of, nodes, tree, Coded, Kept}
use Rattle.diagram.specs.declared.entry.Entry.{Entry}
use Rattle.diagram.specs.declared.entry.Reference.{Reference}
use Rattle.diagram.proofs.Listing.{all_push}
use Rattle.diagram.proofs.Numbering.{node_not_leaf, nodes-append, length-nodes, length_all, tree_more, tree_last, linked, tree-at, code_inj}

pub moved_numbered : (es fs : List Entry) (e : Entry) (n : ℕ) → Numbered es fs e n → Moved es fs
moved_numbered es fs e n h = elim h.grown [ inl q ↦ record { more = []; is = q ∙ sym (append-nil es) } | inr q ↦ record { more = e ∷ []; is = q.0 } ]

make-zero : {E : Type 0} (M : Model E) (x : ℕ) (a : E) (m : Tree E) (b : E) (n : Tree E) → is_zero M b ≡ true → make M x a m b n ≡ (a, m)
make-zero {E} M x a m b n e =
    ap (λ (t : Bool). elim t as (λ _. E × Tree E) [ true ↦ (a, m) | false ↦ ((factor M a b).0, node x (factor M a b).1 m (factor M a b).2 n) ]) e

make_some : {E : Type 0} (M : Model E) (x : ℕ) (a : E) (m : Tree E) (b : E) (n : Tree E) → is_zero M b ≡ false → make M x a m b n ≡ ((factor M a b).0, node x (factor M a b).1 m (factor M a b).2 n)
make_some {E} M x a m b n e =
    ap (λ (t : Bool). elim t as (λ _. E × Tree E) [ true ↦ (a, m) | false ↦ ((factor M a b).0, node x (factor M a b).1 m (factor M a b).2 n) ]) e

mass_none : {E : Type 0} (M : Model E) → ((a : E) → M.size a ≡ 0) → (t : Tree E) → tree_mass M t ≡ 0
mass_none M all leaf = all M.ring.one
mass_none M all (node x p m q n) =
    let e1 = ap (λ z. z * tree_mass M m) (all p) ∙ zero-mul-ℕ (tree_mass M m) in
    let e2 = ap (λ z. z * tree_mass M n) (all q) ∙ zero-mul-ℕ (tree_mass M n) in
    omega arith

mass_light : {E : Type 0} (M : Model E) → Sound M → (g : E) (t : Tree E) → g ≢ M.ring.zero → M.size g * tree_mass M t ≤ M.limit → tree_mass M t ≤ M.limit
mass_light M S g t some l =
    elim S.sizes.kinds [
      | inl all ↦ let z = mass_none M all t in omega arith
      | inr only ↦ let h : 1 * tree_mass M t ≤ M.size g * tree_mass M t = mul-le-mul_right (tree_mass M t) (size_pos M (facts S) (λ a. (only a).0) g some) in omega arith
    ]

same_entry : {E : Type 0} (M : Model E) → Sound M → (a b : Entry) → Coded M 0 a → Coded M 0 b → node_of M a ≡ node_of M b → a ≡ b
same_entry {E} M S a b ca cb e =
    let e_letter : a.letter ≡ b.letter = ap (λ (n : Node E). n.letter) e in
    let e_lo : a.additive.target ≡ b.additive.target = ap (λ (n : Node E). n.lo) e in
    let e_hi : a.multiplicative.target ≡ b.multiplicative.target = ap (λ (n : Node E). n.hi) e in
    let e_p : a.additive.weight ≡ b.additive.weight = code_inj M S a.additive.weight b.additive.weight ca.0 cb.0 (ap (λ (n : Node E). n.p) e) in
    let e_q : a.multiplicative.weight ≡ b.multiplicative.weight = code_inj M S a.multiplicative.weight b.multiplicative.weight ca.1 cb.1 (ap (λ (n : Node E). n.q) e) in
    λ i. record { letter = e_letter i; additive = record { weight = e_p i; target = e_lo i }; multiplicative = record { weight = e_q i; target = e_hi i } }

-- an entry that is not there has a node that is not there
not_among : {E : Type 0} (M : Model E) → Sound M → (es : List Entry) (e : Entry) → All (Coded M) es → Coded M 0 e → Absent es e (length es) → Among (node_of M e) (nodes M es) → ⊥
not_among M S [] e ces ce h a = a
not_among M S (d ∷ es) e ces ce h (inl q) = h 0 d (omega arith) (omega arith) (same_entry M S d e (ces 0 d (omega arith)) ce (sym q))
not_among M S (d ∷ es) e ces ce h (inr a) =
    not_among M S es e (λ i b l. ces (suc i) b (omega arith)) ce (λ i b l m q. h (suc i) b (omega arith) (omega arith) q) a

module _ {E : Type 0} (M : Model E) (S : Sound M) (k : ℕ) (es : List Entry) (x : ℕ) (f g : Reference) (J : Joins M k es x f g) where
  abbrev v : E
  v = M.value f.weight

  abbrev m : Tree E
  m = tree M es f.entry

  abbrev w : E
  w = M.value g.weight

  abbrev n : Tree E
  n = tree M es g.entry

  pub mk : Made M k x v m w n (joint M es x f g)
  mk = made M (facts S) k x J.known v m w n (J.kept.reduced f.entry J.left.inside) (J.kept.reduced g.entry J.right.inside) J.after J.from J.left.lawful J.right.lawful J.light

  -- a tree that is there
  there : (i : ℕ) (s : Tree E) → s ≢ leaf → s ≡ tree M es i → Among s (trees (nodes M es))
  there i s nl e = elim (look_among (trees (nodes M es)) i) [ inl z ↦ absurd (nl (e ∙ z)) | inr a ↦ among_eq s (tree M es i) (trees (nodes M es)) e a ]

  -- nothing to multiply by the letter
  pub joined_none : (cap : ℕ) → length es ≤ cap → zero_code g.weight ≡ true → Joined M k cap es es x f g f
  joined_none cap room e =
      let j : joint M es x f g ≡ (v, m) = make-zero M x v m w n (is_zero_code S g.weight J.right.coded ∙ e) in
      record {
        kept = J.kept;
        lawful = J.left;
        grown = grown_none (nodes M es) (Wanted M es x f g) J.kept.distinct (λ s h. there f.entry s h.0 (h.1 ∙ ap (λ (r : E × Tree E). r.1) j));
        room = room;
        weight_is = sym (ap (λ (r : E × Tree E). r.0) j);
        tree_is = sym (ap (λ (r : E × Tree E). r.1) j);
      }

  module _ (some : zero_code g.weight ≡ false) where
    nonzero : w ≢ M.ring.zero
    nonzero e = let c : g.weight ≡ M.code M.ring.zero = sym (S.codes.only g.weight J.right.coded) ∙ ap M.code e in false≢true (sym some ∙ ap zero_code (c ∙ code_zero S))

    abbrev pub F : E × E × E
    F = factor M v w

    abbrev Z : Number × Number × Number
    Z = M.factor f.weight g.weight

    parts : F ≡ (M.value Z.0, M.value Z.1, M.value Z.2)
    parts = factor_code S f.weight g.weight J.left.coded J.right.coded

    abbrev t : Tree E
    t = node x F.1 m F.2 n

    j : joint M es x f g ≡ (F.0, t)
    j = make_some M x v m w n (is_zero_code S g.weight J.right.coded ∙ some)

    pub joint_node : (joint M es x f g).1 ≡ node x F.1 m F.2 n
    joint_node = ap (λ (y : E × Tree E). y.1) j

    r : Reduced M k t
    r = subst (λ (y : E × Tree E). Reduced M k y.1) j mk.reduced

    l : Lawful M F.0 t
    l = subst (λ (y : E × Tree E). Lawful M y.0 y.1) j mk.lawful

    whole_some : F.0 ≢ M.ring.zero
    whole_some z = node_not_leaf x F.1 m F.2 n (l.bare z)

    abbrev e : Entry
    e = record { letter = x; additive = record { weight = Z.1; target = f.entry }; multiplicative = record { weight = Z.2; target = g.entry } }

    coded_e : Coded M 0 e
    coded_e = let T = S.factors f.weight g.weight J.left.coded J.right.coded nonzero in (T.p_coded, T.q_coded)

    is_t : stands (trees (nodes M es)) (node_of M e) ≡ t
    is_t = ap (λ (z : E × E × E). node x z.1 m z.2 n) (sym parts)

    edges : Edges (length (trees (nodes M es))) (node_of M e)
    edges = record { lo = omega (arith, length_all M es, J.left.inside); hi = omega (arith, length_all M es, J.right.inside) }

    to_wanted : (s : Tree E) → s ≡ t → Wanted M es x f g s
    to_wanted s q = (λ z. node_not_leaf x F.1 m F.2 n (sym q ∙ z), q ∙ sym (ap (λ (y : E × Tree E). y.1) j))

    of_wanted : (s : Tree E) → Wanted M es x f g s → s ≡ t
    of_wanted s h = h.1 ∙ ap (λ (y : E × Tree E). y.1) j

    fresh : Absent es e (length es) → Among (node_of M e) (nodes M es) → ⊥
    fresh ab = not_among M S es e J.kept.coded coded_e ab

    new : Falls es → Absent es e (length es) → Grown (nodes M es) (nodes M (es ++ (e ∷ []))) (λ s. s ≡ t)
    new fall ab =
        subst (λ l. Grown (nodes M es) l (λ s. s ≡ t)) (sym (nodes-append M es (e ∷ [])))
        (subst (λ u. Grown (nodes M es) (nodes M es ++ (node_of M e ∷ [])) (λ s. s ≡ u)) is_t (grown_entry (nodes M es) (linked M es fall) J.kept.distinct (node_of M e) edges (fresh ab)))

    kept_more : Falls es → Absent es e (length es) → Kept M k (es ++ (e ∷ []))
    kept_more fall ab = record {
      coded = all_push (Coded M) es e J.kept.coded coded_e;
      reduced = λ i h.
          elim (dec_lt (length es) i) [
            | yes b ↦ let at : i ≡ suc (length es) = omega (arith, length-append es (e ∷ [])) in subst (λ z. Reduced M k (tree M (es ++ (e ∷ [])) z)) (sym at) (subst (Reduced M k) (sym (tree_last M es e ∙ is_t)) r)
            | no b ↦ let low : i ≤ length es = omega arith in subst (Reduced M k) (sym (tree_more M es (e ∷ []) i low)) (J.kept.reduced i low)
          ];
      distinct = (new fall ab).within.distinct;
      light = λ i h.
          elim (dec_lt (length es) i) [
            | yes b ↦ let at : i ≡ suc (length es) = omega (arith, length-append es (e ∷ [])) in subst (λ z. tree_mass M (tree M (es ++ (e ∷ [])) z) ≤ M.limit) (sym at) (subst (λ z. tree_mass M z ≤ M.limit) (sym (tree_last M es e ∙ is_t)) (mass_light M S F.0 t whole_some l.light))
            | no b ↦ let low : i ≤ length es = omega arith in subst (λ z. tree_mass M z ≤ M.limit) (sym (tree_more M es (e ∷ []) i low)) (J.kept.light i low)
          ];
    }

    abbrev entry_of : Number × Number × Number → Entry
    entry_of z = record { letter = x; additive = record { weight = z.1; target = f.entry }; multiplicative = record { weight = z.2; target = g.entry } }

    module _ (cap : ℕ) (fall : Falls es) where
      denied_full : (b : Fault) → b ≡ Full cap → (length es < cap → ⊥) → Absent es e (length es) → Denied M cap es (Wanted M es x f g) b
      denied_full b full room ab = record {
        full = full;
        overfull = overfull_more (nodes M es) cap (λ s. s ≡ t) (Wanted M es x f g) to_wanted
            (full_one cap (nodes M es) t J.kept.distinct (λ a. fresh ab (known_entry (nodes M es) (linked M es fall) J.kept.distinct (node_of M e) edges (among_eq (stands (trees (nodes M es)) (node_of M e)) t (trees (nodes M es)) is_t a))) (at_least (length es) cap (length-nodes M es) room)).1;
      }
        where
          at_least : (a b : ℕ) → length (nodes M es) ≡ a → (a < b → ⊥) → b ≤ length (nodes M es)
          at_least a b q h = elim (dec_lt a b) [ yes z ↦ absurd (h z) | no z ↦ omega arith ]

      pub denied_factored : (z : Number × Number × Number) → z ≡ Z → (b : Fault) → b ≡ Full cap → (length es < cap → ⊥) → Absent es (entry_of z) (length es) → Denied M cap es (Wanted M es x f g) b
      denied_factored z q b full room =
          subst (λ (y : Number × Number × Number). Absent es (entry_of y) (length es) → Denied M cap es (Wanted M es x f g) b) (sym q) (denied_full b full room)

    module _ (cap : ℕ) (fs : List Entry) (fall : Falls es) where
      joined_at : (num : ℕ) → num ≤ length fs → tree M fs num ≡ t → Kept M k fs → Grown (nodes M es) (nodes M fs) (λ s. s ≡ t) → length fs ≤ cap → Joined M k cap es fs x f g (record { weight = Z.0; entry = num })
      joined_at num inside at K grown room =
          let back : M.value Z.0 ≡ F.0 = sym (ap (λ (z : E × E × E). z.0) parts) in
          record {
            kept = K;
            lawful = record {
              coded = (S.factors f.weight g.weight J.left.coded J.right.coded nonzero).g_coded;
              inside = inside;
              lawful = subst (λ (u : E). Lawful M u (tree M fs num)) (sym back) (subst (Lawful M F.0) (sym at) l);
            };
            grown = grown_same (nodes M es) (nodes M fs) (λ s. s ≡ t) (Wanted M es x f g) to_wanted of_wanted grown;
            room = room;
            weight_is = back ∙ sym (ap (λ (y : E × Tree E). y.0) j);
            tree_is = at ∙ sym (ap (λ (y : E × Tree E). y.1) j);
          }

      joined-numbered : (num : ℕ) → Falls fs → length fs ≤ cap → Numbered es fs e num → Joined M k cap es fs x f g (record { weight = Z.0; entry = num })
      joined-numbered num fall' room N =
          let next : num ≡ suc N.place = omega (arith, N.next) in
          let move = moved_numbered es fs e num N in
          let keeps : (i : ℕ) → i ≤ length es → tree M fs i ≡ tree M es i = λ i h. ap (λ l. tree M l i) move.is ∙ tree_more M es move.more i h in
          let lo = keeps f.entry J.left.inside in
          let hi = keeps g.entry J.right.inside in
          let at : tree M fs num ≡ t =
          ap (tree M fs) next ∙ (tree-at M fs N.place e fall' N.inside
          ∙ (ap (λ (d : Entry). stands (trees (nodes M fs)) (node_of M d)) (N.here e)
          ∙ (ap₂ (λ a b. node x (M.value Z.1) a (M.value Z.2) b) lo hi ∙ is_t))) in
          joined_at num (omega (arith, N.inside)) at
          (elim N.grown [ inl q ↦ subst (Kept M k) (sym q) J.kept | inr q ↦ subst (Kept M k) (sym q.0) (kept_more fall q.1) ])
          (elim N.grown [
            | inl q ↦ subst (λ l. Grown (nodes M es) (nodes M l) (λ s. s ≡ t)) (sym q)
                (grown_none (nodes M es) (λ s. s ≡ t) J.kept.distinct (λ s z. there num s (λ y. node_not_leaf x F.1 m F.2 n (sym z ∙ y)) (z ∙ (sym at ∙ ap (λ l. tree M l num) q))))
            | inr q ↦ subst (λ l. Grown (nodes M es) (nodes M l) (λ s. s ≡ t)) (sym q.0) (new fall q.1)
          ])
          room

      pub joined-factored : (z : Number × Number × Number) → z ≡ Z → (num : ℕ) → Falls fs → length fs ≤ cap → Numbered es fs (entry_of z) num → Joined M k cap es fs x f g (record { weight = z.0; entry = num })
      joined-factored z q num fall' room =
          subst (λ (y : Number × Number × Number). Numbered es fs (entry_of y) num → Joined M k cap es fs x f g (record { weight = y.0; entry = num })) (sym q) (joined-numbered num fall' room)
