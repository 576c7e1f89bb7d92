-- Growing by what f = a + x h needs: what a needs, then what h needs, then one entry.
use Rattle.std.proofs.Common.{◌≡◌, ℕ, ◌+◌, ◌≤◌, Bool, true, false, ◌⊎◌, List, sym, ap, ◌∙◌, subst, ap₂, inl, inr, ◌≢◌}
use Rattle.domain.specs.Model.{Model, Sound}
use Rattle.domain.specs.Ring.{Ring}
use Rattle.domain.specs.declared.fault.Fault.{Fault}
use Rattle.polynomial.specs.Diagrams.{Inside, InDiagram}
use Rattle.polynomial.specs.Elements.{is_zero, factor}
use Rattle.polynomial.specs.Growth.{Either}
use Rattle.polynomial.specs.Needs.{Splits, lo, hi, Needs}
use Rattle.polynomial.specs.Polynomials.{Polynomial, Poly, letter}
use Rattle.polynomial.specs.Theorems.{Reference as Form}
use Rattle.polynomial.specs.Trees.{Tree, leaf, node, value, make}
use Rattle.polynomial.proofs.Down.{down}
use Rattle.polynomial.proofs.ElementFacts.{facts}
use Rattle.polynomial.proofs.GrowthLaws.{grown_same, grown_then, overfull_more, overfull_then}
use Rattle.polynomial.proofs.Minimality.{inside_node}
use Rattle.polynomial.proofs.Parts.{needs_inside, inside_needs, after_of_free, from-of_free}
use Rattle.polynomial.proofs.SeriesRing.{poly_laws}
use Rattle.polynomial.proofs.Theorems.{diagram_laws}
use Rattle.diagram.specs.Nodes.{Moved, Joins, joint, Wanted, Joined, Granted, Denied}
use Rattle.diagram.specs.Tables.{nodes, tree, of, mass_of, LawfulIn, Kept}
use Rattle.diagram.specs.declared.entry.Entry.{Entry}
use Rattle.diagram.specs.declared.entry.Reference.{Reference}
use Rattle.diagram.proofs.Joining.{mk}
use Rattle.diagram.proofs.Lettering.{stays_moved}

inside_make : {E : Type 0} (M : Model E) (x : ℕ) (a : E) (m : Tree E) (b : E) (n s : Tree E) → Inside s (make M x a m b n).1 → (s ≡ (make M x a m b n).1) ⊎ (Inside s m ⊎ Inside s n)
inside_make {E} M x a m b n s = go (is_zero M b)
  where
    go : (t : Bool) → Inside s (elim t as (λ _. E × Tree E) [ true ↦ (a, m) | false ↦ ((factor M a b).0, node x (factor M a b).1 m (factor M a b).2 n) ]).1
        → (s ≡ (elim t as (λ _. E × Tree E) [ true ↦ (a, m) | false ↦ ((factor M a b).0, node x (factor M a b).1 m (factor M a b).2 n) ]).1) ⊎ (Inside s m ⊎ Inside s n)
    go true i = inr (inl i)
    go false i = i

inside_self : {E : Type 0} (s t : Tree E) → s ≢ leaf → s ≡ t → Inside s t
inside_self s leaf h e = absurd (h e)
inside_self s (node x p m q n) h e = inl e

module _ {E : Type 0} (M : Model E) (S : Sound M) (k : ℕ) where
  abbrev R : Ring E
  R = M.ring

  needs_of : (f : Polynomial E k) (s : Tree E) → InDiagram M k f s → Needs M k f s
  needs_of f s D = subst (λ h. Needs M k h s) D.means (inside_needs M (facts S) k D.t D.reduced D.w D.lawful s D.reached)

  of_needs : (f : Polynomial E k) → Form M k f → (s : Tree E) → Needs M k f s → InDiagram M k f s
  of_needs f F s N = record {
    w = F.w;
    t = F.t;
    reduced = F.reduced;
    lawful = F.lawful;
    means = F.means;
    reached = needs_inside M (facts S) k F.t F.reduced F.w F.lawful s (subst (λ h. Needs M k h s) (sym F.means) N);
  }

  abbrev pub form_of : (es : List Entry) (r : Reference) (h : Polynomial E k) → Kept M k es → LawfulIn M es r → of M k es r ≡ h → Form M k h
  form_of es r h K L e = record { w = M.value r.weight; t = tree M es r.entry; reduced = K.reduced r.entry L.inside; lawful = L.lawful; means = e }

  pub diagram_inside : (f : Polynomial E k) (F : Form M k f) (s : Tree E) → InDiagram M k f s → Inside s F.t
  diagram_inside f F s D = ((diagram_laws M S k).reached F.t F.reduced F.w F.lawful s).0 (subst (λ h. InDiagram M k h s) (sym F.means) D)

  pub inside_diagram : (f : Polynomial E k) (F : Form M k f) (s : Tree E) → Inside s F.t → InDiagram M k f s
  inside_diagram f F s i = subst (λ h. InDiagram M k h s) F.means (((diagram_laws M S k).reached F.t F.reduced F.w F.lawful s).1 i)

  module _ (x : ℕ) (f a h : Polynomial E k) (C : Splits R k x f a h) where
    module _ (F : Form M k f) where
      pub low_in : (s : Tree E) → InDiagram M k a s → InDiagram M k f s
      low_in s D =
          let N = needs_of a s D in
          of_needs f F s (record { u = N.u; node = N.node; reduced = N.reduced; lawful = N.lawful; part = lo x f a h C N.part })

      pub high_in : (s : Tree E) → InDiagram M k h s → InDiagram M k f s
      high_in s D =
          let N = needs_of h s D in
          of_needs f F s (record { u = N.u; node = N.node; reduced = N.reduced; lawful = N.lawful; part = hi x f a h C N.part })

      both_in : (s : Tree E) → Either (InDiagram M k a) (InDiagram M k h) s → InDiagram M k f s
      both_in s (inl D) = low_in s D
      both_in s (inr D) = high_in s D

      -- a refusal on the way
      pub denied_low : (cap : ℕ) (es : List Entry) (b : Fault) → Denied M cap es (InDiagram M k a) b → Denied M cap es (InDiagram M k f) b
      denied_low cap es b D = record { full = D.full; overfull = overfull_more (nodes M es) cap (InDiagram M k a) (InDiagram M k f) low_in D.overfull }

      pub denied_high : (cap : ℕ) (es fs : List Entry) (p : Reference) (b : Fault) → Granted M k cap es fs (InDiagram M k a) a p → Denied M cap fs (InDiagram M k h) b → Denied M cap es (InDiagram M k f) b
      denied_high cap es fs p b G D = record {
        full = D.full;
        overfull = overfull_more (nodes M es) cap (Either (InDiagram M k a) (InDiagram M k h)) (InDiagram M k f) both_in
            (overfull_then (nodes M es) (nodes M fs) cap (InDiagram M k a) (InDiagram M k h) G.grown.within D.overfull);
      }

    -- the entry over both parts
    module _ (cap : ℕ) (es₀ es₁ es₂ : List Entry) (p q : Reference) (A : Granted M k cap es₀ es₁ (InDiagram M k a) a p) (move : Moved es₁ es₂) (H : Granted M k cap es₁ es₂ (InDiagram M k h) h q) (light : mass_of M es₂ p + mass_of M es₂ q ≤ M.limit) where
      abbrev first : LawfulIn M es₂ p × (of M k es₂ p ≡ of M k es₁ p)
      first = stays_moved M k es₁ es₂ move p A.stands.lawful

      is_a : of M k es₂ p ≡ a
      is_a = first.1 ∙ A.stands.is

      is_h : of M k es₂ q ≡ h
      is_h = H.stands.is

      pub joins_over : Joins M k es₂ x p q
      joins_over = record {
        kept = H.kept;
        left = first.0;
        right = H.stands.lawful;
        known = C.known;
        after = after_of_free M (facts S) k x (M.value p.weight) (tree M es₂ p.entry) (H.kept.reduced p.entry first.0.inside) first.0.lawful (λ y l. ap (down R k y) is_a ∙ C.low y l);
        from = from-of_free M (facts S) k x (M.value q.weight) (tree M es₂ q.entry) (H.kept.reduced q.entry H.stands.lawful.inside) H.stands.lawful.lawful (λ y l. ap (down R k y) is_h ∙ C.high y l);
        light = light;
      }

      abbrev w : E
      w = (joint M es₂ x p q).0

      abbrev t : Tree E
      t = (joint M es₂ x p q).1

      is_f : value R k w t ≡ f
      is_f =
          let X = letter R k x in
          (mk M S k es₂ x p q joins_over).means
          ∙ (ap₂ (λ y z. (Poly R k).add y ((Poly R k).mul X z)) is_a is_h ∙ ((poly_laws S.laws k).add_comm a ((Poly R k).mul X h) ∙ sym C.means))

      abbrev form : Form M k f
      form = record { w = w; t = t; reduced = (mk M S k es₂ x p q joins_over).reduced; lawful = (mk M S k es₂ x p q joins_over).lawful; means = is_f }

      abbrev Both : Tree E → Type 0
      Both = Either (InDiagram M k a) (InDiagram M k h)

      abbrev Last : Tree E → Type 0
      Last = Wanted M es₂ x p q

      up : (s : Tree E) → Either Both Last s → InDiagram M k f s
      up s (inl b) = both_in form s b
      up s (inr z) = inside_diagram f form s (inside_self s t z.0 z.1)

      apart : (s : Tree E) → InDiagram M k f s → Either Both Last s
      apart s D =
          let i = diagram_inside f form s D in
          elim (inside_make M x (M.value p.weight) (tree M es₂ p.entry) (M.value q.weight) (tree M es₂ q.entry) s i) [
            | inl e ↦ inr (inside_node s t i, e)
            | inr (inl j) ↦ inl (inl (inside_diagram a (form_of es₂ p a H.kept first.0 is_a) s j))
            | inr (inr j) ↦ inl (inr (inside_diagram h (form_of es₂ q h H.kept H.stands.lawful is_h) s j))
          ]

      pub granted_over : (es₃ : List Entry) (r : Reference) → Moved es₂ es₃ → Joined M k cap es₂ es₃ x p q r → Granted M k cap es₀ es₃ (InDiagram M k f) f r
      granted_over es₃ r more J = record {
        kept = J.kept;
        stands = record { lawful = J.lawful; is = ap₂ (value R k) J.weight_is J.tree_is ∙ is_f };
        grown = grown_same (nodes M es₀) (nodes M es₃) (Either Both Last) (InDiagram M k f) up apart
            (grown_then (nodes M es₀) (nodes M es₂) (nodes M es₃) Both Last (grown_then (nodes M es₀) (nodes M es₁) (nodes M es₂) (InDiagram M k a) (InDiagram M k h) A.grown H.grown) J.grown);
        room = J.room;
        stays = λ g L0.
            let L1 = A.stays g L0 in
            let L2 = H.stays g L1.0 in
            let L3 = stays_moved M k es₂ es₃ more g L2.0 in
            (L3.0, L3.1 ∙ (L2.1 ∙ L1.1));
      }

      pub denied_over : (b : Fault) → Denied M cap es₂ Last b → Denied M cap es₀ (InDiagram M k f) b
      denied_over b D = record {
        full = D.full;
        overfull = overfull_more (nodes M es₀) cap (Either Both Last) (InDiagram M k f) up
            (overfull_then (nodes M es₀) (nodes M es₂) cap Both Last (grown_then (nodes M es₀) (nodes M es₁) (nodes M es₂) (InDiagram M k a) (InDiagram M k h) A.grown H.grown).within D.overfull);
      }
