-- A product by its parts: the letters of the operands, and the outcomes of its steps one behind the other.
use Rattle.std.proofs.Common.{◌≡◌, ℕ, zero, suc, ◌+◌, ◌-◌, ◌*◌, ◌<◌, ◌≤◌, max, true, false, ◌≢◌, ◌⊎◌, List, [], ◌∷◌, length, get_or, Ok, Err, Result, sym, refl, ap, ◌∙◌, subst, ap₂, inl, inr, mul_assoc, mul_comm, add-mul as add-mul-ℕ, zero-mul as zero-mul-ℕ, le_trans, arith, MatchResult}
use mathlib.Core.Bool.{false≢true}
use Rattle.domain.specs.Answers.{multiplied}
use Rattle.domain.specs.Model.{Model, Sound}
use Rattle.domain.specs.Numbers.{is_zero as zero_code}
use Rattle.domain.specs.Ring.{Ring, Laws}
use Rattle.domain.specs.declared.fault.Fault.{Fault}
use Rattle.domain.specs.declared.number.Number.{Number}
use Rattle.polynomial.specs.Diagrams.{Inside, InDiagram}
use Rattle.polynomial.specs.Elements.{is_zero}
use Rattle.polynomial.specs.Entries.{look, trees}
use Rattle.polynomial.specs.Growth.{Either, Grown}
use Rattle.polynomial.specs.Lists.{Among}
use Rattle.polynomial.specs.Polynomials.{Polynomial, Poly, constant, letter, down, scaled}
use Rattle.polynomial.specs.Trees.{Tree, leaf, node, Reduced, Lawful, tree_mass, tree_degree, meaning, value}
use Rattle.polynomial.specs.Working.{Constant, Leads, Trails}
use Rattle.polynomial.proofs.Canonicity.{le-mass}
use Rattle.polynomial.proofs.Down.{constant-mul, constant-zero}
use Rattle.polynomial.proofs.ElementFacts.{facts, size_zero, is_zero_code}
use Rattle.polynomial.proofs.GrowthLaws.{grown_same, grown_then, grown_none, overfull_more, overfull_then}
use Rattle.polynomial.proofs.LetterRules.{reduced_ordered, free_value}
use Rattle.polynomial.proofs.Minimality.{look_closed, closed_after}
use Rattle.polynomial.proofs.Parts.{down_nonzero, high_is, from-of_free}
use Rattle.polynomial.proofs.References.{one_leaf}
use Rattle.polynomial.proofs.Rings.{add-mul, zero-add, zero-mul}
use Rattle.polynomial.proofs.Theorems.{ring_laws, diagram_laws, working_laws}
use Rattle.polynomial.proofs.TreeMasses.{tree-mass-mul}
use Rattle.polynomial.proofs.WorkingLaws.{lead_times}
use Rattle.diagram.specs.Answering.{StandsFor}
use Rattle.diagram.specs.Nodes.{Moved, Joins, joint, Wanted, Joined, Granted, Denied}
use Rattle.diagram.specs.Parts.{Has, Cuts, Parted}
use Rattle.diagram.specs.Places.{Falls}
use Rattle.diagram.specs.Products.{WorkingEntries, Multipliable, Scalable, Ordered}
use Rattle.diagram.specs.Sums.{Addable}
use Rattle.diagram.specs.Tables.{nodes, tree, of, mass_of, LawfulIn, Kept, Stays}
use Rattle.diagram.specs.declared.entry.Entry.{Entry}
use Rattle.diagram.specs.declared.entry.Reference.{Reference}
use Rattle.diagram.proofs.Degrees.{degree_product}
use Rattle.diagram.proofs.Joining.{mk}
use Rattle.diagram.proofs.LawfulLaws.{zero_only, zero_lawful}
use Rattle.diagram.proofs.Lettering.{nothing, stays_moved}
use Rattle.diagram.proofs.Numbering.{tree_more, tree-at}
use Rattle.diagram.proofs.Parting.{has_letter}
use Rattle.diagram.proofs.Walking.{multiplied_ok, multiplied_err}

-- a tree with the letter x at its root
record Rooted {E : Type 0} (x : ℕ) (t : Tree E) : Type 0 where
  p : E
  m : Tree E
  q : E
  n : Tree E
  is : t ≡ node x p m q n

rooted : {E : Type 0} (M : Model E) (es : List Entry) → Falls es → (n x : ℕ) → n ≤ length es → Has es n x → Rooted x (tree M es n)
rooted M es fall zero x l h = absurd (omega (arith, h.0))
rooted M [] fall (suc i) x l h = absurd (omega arith)
rooted M (d ∷ es) fall (suc i) x l h =
    let e : Entry = get_or (d ∷ es) i d in
    let T = trees (nodes M (d ∷ es)) in
    let at : suc i - 1 ≡ i = omega arith in
    let ex : e.letter ≡ x = ap (λ (j : ℕ). (get_or (d ∷ es) j d).letter) (sym at) ∙ h.1 d in
    record {
      p = M.value e.additive.weight;
      m = look T e.additive.target;
      q = M.value e.multiplicative.weight;
      n = look T e.multiplicative.target;
      is = tree-at M (d ∷ es) i d fall (omega arith) ∙ ap (λ (y : ℕ). node y (M.value e.additive.weight) (look T e.additive.target) (M.value e.multiplicative.weight) (look T e.multiplicative.target)) ex;
    }

module _ {E : Type 0} (M : Model E) (S : Sound M) (k : ℕ) where
  abbrev R : Ring E
  R = M.ring

  abbrev P : Ring (Polynomial E k)
  P = Poly M.ring k

  abbrev L : Laws P
  L = ring_laws M S k

  -- a reference with a letter
  module _ (es : List Entry) (K : Kept M k es) (fall : Falls es) (f : Reference) (l : LawfulIn M es f) (x : ℕ) (h : Has es f.entry x) where
    root : Rooted x (tree M es f.entry)
    root = rooted M es fall f.entry x l.inside h

    abbrev w : E
    w = M.value f.weight

    abbrev t : Tree E
    t = node x root.p root.m root.q root.n

    reduced : Reduced M k t
    reduced = subst (Reduced M k) root.is (K.reduced f.entry l.inside)

    is : of M k es f ≡ value R k w t
    is = ap (value R k w) root.is

    pub has_known : x < k
    has_known = reduced.known

    pub has_down : down R k x (of M k es f) ≢ P.zero
    has_down z =
        down_nonzero M (facts S) k x root.p root.m root.q root.n reduced w (subst (Lawful M w) root.is l.lawful) (ap (down R k x) (sym is) ∙ z)

    pub none_before : (y : ℕ) → y < x → down R k y (of M k es f) ≡ P.zero
    none_before y b = ap (down R k y) is ∙ free_value S.laws k y w t (reduced_ordered M k t reduced) b

    pub varies : Constant R k (of M k es f) → ⊥
    varies c = has_down (c x)

    pub has_degree : 1 ≤ tree_degree (tree M es f.entry)
    has_degree = let d : tree_degree (tree M es f.entry) ≡ max (tree_degree root.m) (1 + tree_degree root.n) = ap tree_degree root.is in omega arith

  -- one letter has one number
  pub same_letter : (es : List Entry) (n x y : ℕ) → n ≤ length es → Has es n x → Has es n y → x ≡ y
  same_letter [] n x y l h i = absurd (omega (arith, l, h.0))
  same_letter (d ∷ es) n x y l h i = sym (h.1 d) ∙ i.1 d

  pub leads : (es : List Entry) → Kept M k es → Falls es → (u o a h : Reference) (x y : ℕ) → LawfulIn M es u → LawfulIn M es o → Has es u.entry x → Has es o.entry y → x ≤ y → Parted M k es u x a h
      → Leads R k x (of M k es u) (of M k es a) (of M k es h) (of M k es o)
  leads es K fall u o a h x y lu lo hu ho b p = record {
    splits = p.splits;
    has = λ z. has_down es K fall u lu x hu (high_is M (facts S) k x (of M k es u) (of M k es a) (of M k es h) p.splits ∙ z);
    later = λ z c. none_before es K fall o lo y ho z (omega arith);
    varies = varies es K fall o lo y ho;
  }

  pub trails : (es : List Entry) → Kept M k es → Falls es → (f g : Reference) (x y : ℕ) → LawfulIn M es f → LawfulIn M es g → Has es g.entry x → Has es f.entry y → x < y
      → Trails R k (of M k es f) (of M k es g)
  trails es K fall f g x y lf lg hg hf b = record {
    x = x;
    has = has_down es K fall g lg x hg;
    later = λ z c. none_before es K fall f lf y hf z (omega arith);
    varies = varies es K fall f lf y hf;
  }

  -- the entries of a lawful reference's diagram are in the table
  pub settled : (es : List Entry) (h : Polynomial E k) (r : Reference) → Kept M k es → StandsFor M k es h r → (s : Tree E) → InDiagram M k h s → Among s (trees (nodes M es))
  settled es h r K s t d =
      let i : Inside t (tree M es r.entry) =
      ((diagram_laws M S k).reached (tree M es r.entry) (K.reduced r.entry s.lawful.inside) (M.value r.weight) s.lawful.lawful t).0 (subst (λ z. InDiagram M k z t) (sym s.is) d) in
      look_closed (trees (nodes M es)) (closed_after (nodes M es) [] (λ a b c. absurd c)) r.entry t i

  -- the sets of working entries
  pub working_four : (x : ℕ) (u a h o : Polynomial E k) → Leads R k x u a h o → (s : Tree E)
      → Either (Either (Either (WorkingEntries M k a o) (WorkingEntries M k h o)) (InDiagram M k (P.mul (letter R k x) (P.mul h o)))) (InDiagram M k (P.mul u o)) s → WorkingEntries M k u o s
  working_four x u a h o l s (inl (inl (inl w))) = record { polynomial = w.polynomial; works = ((working_laws M S k).leading x u a h o l w.polynomial).1 (inl w.works); entry = w.entry }
  working_four x u a h o l s (inl (inl (inr w))) = record { polynomial = w.polynomial; works = ((working_laws M S k).leading x u a h o l w.polynomial).1 (inr (inl w.works)); entry = w.entry }
  working_four x u a h o l s (inl (inr d)) =
      let r = P.mul (letter R k x) (P.mul h o) in
      record { polynomial = r; works = ((working_laws M S k).leading x u a h o l r).1 (inr (inr (inl refl))); entry = d }
  working_four x u a h o l s (inr d) = record { polynomial = P.mul u o; works = ((working_laws M S k).leading x u a h o l (P.mul u o)).1 (inr (inr (inr refl))); entry = d }

  pub four_working : (x : ℕ) (u a h o : Polynomial E k) → Leads R k x u a h o → (s : Tree E) → WorkingEntries M k u o s
      → Either (Either (Either (WorkingEntries M k a o) (WorkingEntries M k h o)) (InDiagram M k (P.mul (letter R k x) (P.mul h o)))) (InDiagram M k (P.mul u o)) s
  four_working x u a h o l s w =
      elim (((working_laws M S k).leading x u a h o l w.polynomial).0 w.works) [
        | inl v ↦ inl (inl (inl (record { polynomial = w.polynomial; works = v; entry = w.entry })))
        | inr (inl v) ↦ inl (inl (inr (record { polynomial = w.polynomial; works = v; entry = w.entry })))
        | inr (inr (inl e)) ↦ inl (inr (subst (λ z. InDiagram M k z s) e w.entry))
        | inr (inr (inr e)) ↦ inr (subst (λ z. InDiagram M k z s) e w.entry)
      ]

  pub turned_working : (f g : Polynomial E k) → Trails R k f g → (s : Tree E) → WorkingEntries M k g f s → WorkingEntries M k f g s
  turned_working f g t s w = record { polynomial = w.polynomial; works = ((working_laws M S k).trailing f g t w.polynomial).1 w.works; entry = w.entry }

  pub working_turned : (f g : Polynomial E k) → Trails R k f g → (s : Tree E) → WorkingEntries M k f g s → WorkingEntries M k g f s
  working_turned f g t s w = record { polynomial = w.polynomial; works = ((working_laws M S k).trailing f g t w.polynomial).0 w.works; entry = w.entry }

  -- one accepted or refused call behind an accepted one
  pub stays_then : (es fs gs : List Entry) → Stays M k es fs → Stays M k fs gs → Stays M k es gs
  stays_then es fs gs s t f l = let a = s f l in let b = t f a.0 in (b.0, b.1 ∙ a.1)

  pub granted_then : (cap : ℕ) (es fs gs : List Entry) (A B : Tree E → Type 0) (p q : Polynomial E k) (r s : Reference) → Granted M k cap es fs A p r → Granted M k cap fs gs B q s → Granted M k cap es gs (Either A B) q s
  granted_then cap es fs gs A B p q r s G H = record {
    kept = H.kept;
    stands = H.stands;
    grown = grown_then (nodes M es) (nodes M fs) (nodes M gs) A B G.grown H.grown;
    room = H.room;
    stays = stays_then es fs gs G.stays H.stays;
  }

  pub granted_same : (cap : ℕ) (es fs : List Entry) (A B : Tree E → Type 0) (p q : Polynomial E k) (r : Reference) → ((s : Tree E) → A s → B s) → ((s : Tree E) → B s → A s) → p ≡ q → Granted M k cap es fs A p r → Granted M k cap es fs B q r
  granted_same cap es fs A B p q r to back e G = record {
    kept = G.kept;
    stands = record { lawful = G.stands.lawful; is = G.stands.is ∙ e };
    grown = grown_same (nodes M es) (nodes M fs) A B to back G.grown;
    room = G.room;
    stays = G.stays;
  }

  pub denied_more : (cap : ℕ) (es : List Entry) (A B : Tree E → Type 0) (e : Fault) → ((s : Tree E) → A s → B s) → Denied M cap es A e → Denied M cap es B e
  denied_more cap es A B e to D = record { full = D.full; overfull = overfull_more (nodes M es) cap A B to D.overfull }

  pub denied_then : (cap : ℕ) (es fs : List Entry) (A B : Tree E → Type 0) (p : Polynomial E k) (r : Reference) (e : Fault) → Granted M k cap es fs A p r → Denied M cap fs B e → Denied M cap es (Either A B) e
  denied_then cap es fs A B p r e G D = record { full = D.full; overfull = overfull_then (nodes M es) (nodes M fs) cap A B G.grown.within D.overfull }

  degree_moved : (es fs : List Entry) (f : Reference) → Moved es fs → f.entry ≤ length es → tree_degree (tree M fs f.entry) ≡ tree_degree (tree M es f.entry)
  degree_moved es fs f m h = ap tree_degree (ap (λ l. tree M l f.entry) m.is ∙ tree_more M es m.more f.entry h)

  mass_moved : (es fs : List Entry) (f : Reference) → Moved es fs → f.entry ≤ length es → mass_of M fs f ≡ mass_of M es f
  mass_moved es fs f m h = ap (λ t. M.size (M.value f.weight) * tree_mass M t) (ap (λ l. tree M l f.entry) m.is ∙ tree_more M es m.more f.entry h)

  -- the mass of what stands for a product
  mass_times : (es fs : List Entry) (f g r : Reference) → Kept M k es → Kept M k fs → LawfulIn M es f → LawfulIn M es g → StandsFor M k fs (P.mul (of M k es f) (of M k es g)) r → mass_of M fs r ≤ mass_of M es f * mass_of M es g
  mass_times es fs f g r K K' lf lg s =
      tree-mass-mul M (facts S) k (M.value r.weight) (M.value f.weight) (M.value g.weight) (tree M fs r.entry) (tree M es f.entry) (tree M es g.entry)
      (K'.reduced r.entry s.lawful.inside) (K.reduced f.entry lf.inside) (K.reduced g.entry lg.inside) s.is

  mass_nothing : (es : List Entry) → mass_of M es nothing ≡ 0
  mass_nothing es = ap (λ n. n * tree_mass M leaf) (ap M.size S.codes.zero.1 ∙ size_zero S) ∙ zero-mul-ℕ (tree_mass M leaf)

  of_nothing : (es : List Entry) → of M k es nothing ≡ P.zero
  of_nothing es = ap (λ z. P.mul (constant R k z) P.one) S.codes.zero.1 ∙ (ap (λ z. P.mul z P.one) (constant-zero R k) ∙ zero-mul L P.one)

  -- a letter times a reference, as one node
  module _ (cap : ℕ) (es fs : List Entry) (x : ℕ) (q : Polynomial E k) (high up : Reference) (J : Joins M k es x nothing high) (is : of M k es high ≡ q) where
    abbrev XQ : Polynomial E k
    XQ = P.mul (letter R k x) q

    means : value R k (joint M es x nothing high).0 (joint M es x nothing high).1 ≡ XQ
    means = (mk M S k es x nothing high J).means ∙ (ap₂ (λ a b. P.add a (P.mul (letter R k x) b)) (of_nothing es) is ∙ zero-add L XQ)

    wanted_in : (s : Tree E) → Wanted M es x nothing high s → InDiagram M k XQ s
    wanted_in s h =
        let m = mk M S k es x nothing high J in
        subst (λ z. InDiagram M k z s) means
        (((diagram_laws M S k).reached (joint M es x nothing high).1 m.reduced (joint M es x nothing high).0 m.lawful s).1 (whole s (joint M es x nothing high).1 h.0 h.1))
      where
        whole : (s t : Tree E) → s ≢ leaf → s ≡ t → Inside s t
        whole s leaf h e = absurd (h e)
        whole s (node x p m q n) h e = inl e

    pub shifted_denied : (e : Fault) → Denied M cap es (Wanted M es x nothing high) e → Denied M cap es (InDiagram M k XQ) e
    shifted_denied e D = denied_more cap es (Wanted M es x nothing high) (InDiagram M k XQ) e wanted_in D

    pub shifted : Moved es fs → Joined M k cap es fs x nothing high up → Granted M k cap es fs (InDiagram M k XQ) XQ up
    shifted m G =
        let st : StandsFor M k fs XQ up = record { lawful = G.lawful; is = ap₂ (value R k) G.weight_is G.tree_is ∙ means } in
        record {
          kept = G.kept;
          stands = st;
          grown = record {
            within = record {
              new = G.grown.within.new;
              appended = G.grown.within.appended;
              distinct = G.grown.within.distinct;
              only = λ t h. elim (G.grown.within.only t h) [ inl i ↦ inl i | inr s ↦ inr (wanted_in t s) ];
            };
            all = settled fs XQ up G.kept st;
          };
          room = G.room;
          stays = stays_moved M k es fs m;
        }

    pub shifted_mass : Joined M k cap es fs x nothing high up → mass_of M fs up ≡ mass_of M es high
    shifted_mass G =
        omega (arith, ap₂ (λ (w : E) (t : Tree E). M.size w * tree_mass M t) G.weight_is G.tree_is, (mk M S k es x nothing high J).weighs, mass_nothing es)

  module _ (cap : ℕ) (es₀ : List Entry) (x : ℕ) (u o a h : Reference) (K : Kept M k es₀) (lo : LawfulIn M es₀ o) (light : mass_of M es₀ u * mass_of M es₀ o ≤ M.limit) (part : Parted M k es₀ u x a h) (lead : Leads R k x (of M k es₀ u) (of M k es₀ a) (of M k es₀ h) (of M k es₀ o)) where
    abbrev U : Polynomial E k
    U = of M k es₀ u

    abbrev O : Polynomial E k
    O = of M k es₀ o

    abbrev A : Polynomial E k
    A = of M k es₀ a

    abbrev H : Polynomial E k
    H = of M k es₀ h

    abbrev XHO : Polynomial E k
    XHO = P.mul (letter R k x) (P.mul H O)

    abbrev S1 : Tree E → Type 0
    S1 = WorkingEntries M k A O

    abbrev S2 : Tree E → Type 0
    S2 = WorkingEntries M k H O

    abbrev S3 : Tree E → Type 0
    S3 = InDiagram M k XHO

    abbrev S4 : Tree E → Type 0
    S4 = InDiagram M k (P.mul U O)

    abbrev All : Tree E → Type 0
    All = WorkingEntries M k U O

    all : (s : Tree E) → Either (Either (Either S1 S2) S3) S4 s → All s
    all = working_four x U A H O lead

    both : mass_of M es₀ a * mass_of M es₀ o + mass_of M es₀ h * mass_of M es₀ o ≤ M.limit
    both = omega (arith, sym (add-mul-ℕ (mass_of M es₀ a) (mass_of M es₀ h) (mass_of M es₀ o)), ap (λ n. n * mass_of M es₀ o) part.weighs, light)

    pub first : Multipliable M k es₀ a o
    first = record { kept = K; first = part.left; second = lo; light = omega (arith, both) }

    pub first_denied : (e : Fault) → Denied M cap es₀ S1 e → Denied M cap es₀ All e
    first_denied e = denied_more cap es₀ S1 All e (λ s d. all s (inl (inl (inl d))))

    module _ (es₁ : List Entry) (low : Reference) (m₁ : Moved es₀ es₁) (g₁ : Granted M k cap es₀ es₁ S1 (P.mul A O) low) where
      abbrev H₁ : Polynomial E k
      H₁ = of M k es₁ h

      abbrev O₁ : Polynomial E k
      O₁ = of M k es₁ o

      eh : H₁ ≡ H
      eh = (g₁.stays h part.right).1

      eo : O₁ ≡ O
      eo = (g₁.stays o lo).1

      pub second : Multipliable M k es₁ h o
      second = record {
        kept = g₁.kept;
        first = (g₁.stays h part.right).0;
        second = (g₁.stays o lo).0;
        light = omega (arith, both, ap₂ ◌*◌ (mass_moved es₀ es₁ h m₁ part.right.inside) (mass_moved es₀ es₁ o m₁ lo.inside));
      }

      pub second_degree : (d : ℕ) → 1 ≤ tree_degree (tree M es₀ u.entry) → tree_degree (tree M es₀ u.entry) + tree_degree (tree M es₀ o.entry) ≤ d → tree_degree (tree M es₁ h.entry) + tree_degree (tree M es₁ o.entry) ≤ d
      second_degree d some b = omega (arith, degree_moved es₀ es₁ h m₁ part.right.inside, degree_moved es₀ es₁ o m₁ lo.inside, part.degree)

      pub second_denied : (e : Fault) → Denied M cap es₁ (WorkingEntries M k H₁ O₁) e → Denied M cap es₀ All e
      second_denied e D =
          denied_more cap es₀ (Either S1 S2) All e (λ s d. all s (inl (inl d)))
          (denied_then cap es₀ es₁ S1 S2 (P.mul A O) low e g₁ (subst (λ z. Denied M cap es₁ (WorkingEntries M k H z) e) eo (subst (λ z. Denied M cap es₁ (WorkingEntries M k z O₁) e) eh D)))

      module _ (es₂ : List Entry) (high : Reference) (m₂ : Moved es₁ es₂) (gr₂ : Granted M k cap es₁ es₂ (WorkingEntries M k H₁ O₁) (P.mul H₁ O₁) high) where
        g₂ : Granted M k cap es₁ es₂ S2 (P.mul H O) high
        g₂ =
            subst (λ z. Granted M k cap es₁ es₂ (WorkingEntries M k H z) (P.mul H z) high) eo
            (subst (λ z. Granted M k cap es₁ es₂ (WorkingEntries M k z O₁) (P.mul z O₁) high) eh gr₂)

        two : Granted M k cap es₀ es₂ (Either S1 S2) (P.mul H O) high
        two = granted_then cap es₀ es₁ es₂ S1 S2 (P.mul A O) (P.mul H O) low high g₁ g₂

        high_mass : mass_of M es₂ high ≤ mass_of M es₀ h * mass_of M es₀ o
        high_mass = mass_times es₀ es₂ h o high K g₂.kept part.right lo g₂.stands

        pub third : Joins M k es₂ x nothing high
        third = record {
          kept = g₂.kept;
          left = zero_lawful M S es₂ nothing refl refl;
          right = g₂.stands.lawful;
          known = lead.splits.known;
          after = tt;
          from = from-of_free M (facts S) k x (M.value high.weight) (tree M es₂ high.entry) (g₂.kept.reduced high.entry g₂.stands.lawful.inside) g₂.stands.lawful.lawful
              (λ y b. ap (down R k y) g₂.stands.is ∙ (lead_times M (facts S) k x U A H O lead).high y b);
          light = omega (arith, mass_nothing es₂, high_mass, both);
        }

        pub third_degree : (d : ℕ) → 1 ≤ tree_degree (tree M es₀ u.entry) → tree_degree (tree M es₀ u.entry) + tree_degree (tree M es₀ o.entry) ≤ d → 1 + tree_degree (tree M es₂ high.entry) ≤ d
        third_degree d some b =
            let p = degree_product M S k (M.value high.weight) (M.value h.weight) (M.value o.weight) (tree M es₂ high.entry) (tree M es₀ h.entry) (tree M es₀ o.entry)
            (g₂.kept.reduced high.entry g₂.stands.lawful.inside) (K.reduced h.entry part.right.inside) (K.reduced o.entry lo.inside) g₂.stands.lawful.lawful part.right.lawful lo.lawful g₂.stands.is in
            omega (arith, p, part.degree)

        pub third_denied : (e : Fault) → Denied M cap es₂ (Wanted M es₂ x nothing high) e → Denied M cap es₀ All e
        third_denied e D =
            denied_more cap es₀ (Either (Either S1 S2) S3) All e (λ s d. all s (inl d))
            (denied_then cap es₀ es₂ (Either S1 S2) S3 (P.mul H O) high e two (shifted_denied cap es₂ es₂ x (P.mul H O) high high third g₂.stands.is e D))

        module _ (es₃ : List Entry) (up : Reference) (m₃ : Moved es₂ es₃) (J : Joined M k cap es₂ es₃ x nothing high up) where
          g₃ : Granted M k cap es₂ es₃ S3 XHO up
          g₃ = shifted cap es₂ es₃ x (P.mul H O) high up third g₂.stands.is m₃ J

          three : Granted M k cap es₀ es₃ (Either (Either S1 S2) S3) XHO up
          three = granted_then cap es₀ es₂ es₃ (Either S1 S2) S3 (P.mul H O) XHO high up two g₃

          low_two : LawfulIn M es₂ low × (of M k es₂ low ≡ of M k es₁ low)
          low_two = g₂.stays low g₁.stands.lawful

          low_three : LawfulIn M es₃ low × (of M k es₃ low ≡ of M k es₂ low)
          low_three = g₃.stays low low_two.0

          low_mass : mass_of M es₃ low ≤ mass_of M es₀ a * mass_of M es₀ o
          low_mass =
              mass_times es₀ es₃ a o low K g₃.kept part.left lo (record { lawful = low_three.0; is = low_three.1 ∙ (low_two.1 ∙ g₁.stands.is) })

          pub fourth : Addable M k es₃ low up
          fourth = record {
            kept = g₃.kept;
            first = low_three.0;
            second = g₃.stands.lawful;
            light = omega (arith, both, low_mass, high_mass, shifted_mass cap es₂ es₃ x (P.mul H O) high up third g₂.stands.is J);
          }

          abbrev sum : Polynomial E k
          sum = P.add (of M k es₃ low) (of M k es₃ up)

          whole_is : sum ≡ P.mul U O
          whole_is =
              let X = letter R k x in
              ap₂ P.add (low_three.1 ∙ (low_two.1 ∙ g₁.stands.is)) g₃.stands.is
              ∙ (L.add_comm (P.mul A O) XHO
              ∙ (ap (λ z. P.add z (P.mul A O)) (sym (L.mul_assoc X H O))
              ∙ (sym (add-mul L (P.mul X H) A O) ∙ ap (λ z. P.mul z O) (sym part.splits.means))))

          denied : (e : Fault) → Denied M cap es₃ (InDiagram M k sum) e → Denied M cap es₀ All e
          denied e D =
              denied_more cap es₀ (Either (Either (Either S1 S2) S3) S4) All e all
              (denied_then cap es₀ es₃ (Either (Either S1 S2) S3) S4 XHO up e three (subst (λ z. Denied M cap es₃ (InDiagram M k z) e) whole_is D))

          granted : (es₄ : List Entry) (r : Reference) → Granted M k cap es₃ es₄ (InDiagram M k sum) sum r → Granted M k cap es₀ es₄ All (P.mul U O) r
          granted es₄ r G =
              granted_same cap es₀ es₄ (Either (Either (Either S1 S2) S3) S4) All (P.mul U O) (P.mul U O) r all (four_working x U A H O lead) refl
              (granted_then cap es₀ es₃ es₄ (Either (Either S1 S2) S3) S4 XHO (P.mul U O) up r three (subst (λ z. Granted M k cap es₃ es₄ (InDiagram M k z) z r) whole_is G))

          pub whole_ends : (es₄ : List Entry) (r : Result Reference Fault) → MatchResult r (Granted M k cap es₃ es₄ (InDiagram M k sum) sum) (Denied M cap es₃ (InDiagram M k sum)) → MatchResult r (Granted M k cap es₀ es₄ All (P.mul U O)) (Denied M cap es₀ All)
          whole_ends es₄ (Ok v) G = granted es₄ v G
          whole_ends es₄ (Err e) D = denied e D

  -- the operands in their order
  module _ (es : List Entry) (f g : Reference) (A : Multipliable M k es f g) (fall : Falls es) (x : ℕ) (u o : Reference) (order : Ordered es f g x u o) where
    pub record Turned : Type 0 where
      pub left : LawfulIn M es u
      pub right : LawfulIn M es o
      pub light : mass_of M es u * mass_of M es o ≤ M.limit
      pub later : x ≤ order.next
      pub same : P.mul (of M k es u) (of M k es o) ≡ P.mul (of M k es f) (of M k es g)
      pub to : (s : Tree E) → WorkingEntries M k (of M k es u) (of M k es o) s → WorkingEntries M k (of M k es f) (of M k es g) s
      pub back : (s : Tree E) → WorkingEntries M k (of M k es f) (of M k es g) s → WorkingEntries M k (of M k es u) (of M k es o) s

    straight : (u ≡ f) × (o ≡ g) × (x ≤ order.next) → Turned
    straight (eu, eo, b) = record {
      left = subst (LawfulIn M es) (sym eu) A.first;
      right = subst (LawfulIn M es) (sym eo) A.second;
      light = omega (arith, A.light, ap₂ (λ a b. mass_of M es a * mass_of M es b) eu eo);
      later = b;
      same = ap₂ (λ a b. P.mul (of M k es a) (of M k es b)) eu eo;
      to = λ s. subst (λ r. WorkingEntries M k (of M k es u) (of M k es o) s → WorkingEntries M k (of M k es r) (of M k es g) s) eu (subst (λ r. WorkingEntries M k (of M k es u) (of M k es o) s → WorkingEntries M k (of M k es u) (of M k es r) s) eo (λ d. d));
      back = λ s. subst (λ r. WorkingEntries M k (of M k es r) (of M k es g) s → WorkingEntries M k (of M k es u) (of M k es o) s) eu (subst (λ r. WorkingEntries M k (of M k es u) (of M k es r) s → WorkingEntries M k (of M k es u) (of M k es o) s) eo (λ d. d));
    }

    swapped : (u ≡ g) × (o ≡ f) × (x < order.next) → Turned
    swapped (eu, eo, b) =
        let T = trails es A.kept fall f g x order.next A.first A.second (subst (λ (r : Reference). Has es r.entry x) eu order.has) (subst (λ (r : Reference). Has es r.entry order.next) eo order.beside) b in
        record {
          left = subst (LawfulIn M es) (sym eu) A.second;
          right = subst (LawfulIn M es) (sym eo) A.first;
          light = omega (arith, A.light, ap₂ (λ a b. mass_of M es a * mass_of M es b) eu eo, mul_comm (mass_of M es f) (mass_of M es g));
          later = omega arith;
          same = ap₂ (λ a b. P.mul (of M k es a) (of M k es b)) eu eo ∙ L.mul_comm (of M k es g) (of M k es f);
          to = λ s d.
              turned_working (of M k es f) (of M k es g) T s
              (subst (λ r. WorkingEntries M k (of M k es g) (of M k es r) s) eo (subst (λ r. WorkingEntries M k (of M k es r) (of M k es o) s) eu d));
          back = λ s d.
              subst (λ r. WorkingEntries M k (of M k es r) (of M k es o) s) (sym eu)
              (subst (λ r. WorkingEntries M k (of M k es g) (of M k es r) s) (sym eo) (working_turned (of M k es f) (of M k es g) T s d));
        }

    pub turned : Turned
    turned = elim order.which [ inl e ↦ straight e | inr e ↦ swapped e ]

    pub cuts : Cuts M k es u x
    cuts = record {
      kept = A.kept;
      lawful = turned.left;
      known = has_known es A.kept fall u turned.left x order.has;
      leads = λ y h. let e = same_letter es u.entry x y turned.left.inside order.has h in omega arith;
    }

    pub ordered_leads : (a h : Reference) → Parted M k es u x a h → Leads R k x (of M k es u) (of M k es a) (of M k es h) (of M k es o)
    ordered_leads a h p = leads es A.kept fall u o a h x order.next turned.left turned.right order.has order.beside turned.later p

    pub turned_denied : (cap : ℕ) (e : Fault) → Denied M cap es (WorkingEntries M k (of M k es u) (of M k es o)) e → Denied M cap es (WorkingEntries M k (of M k es f) (of M k es g)) e
    turned_denied cap e = denied_more cap es (WorkingEntries M k (of M k es u) (of M k es o)) (WorkingEntries M k (of M k es f) (of M k es g)) e turned.to

    pub turned_ends : (cap : ℕ) (fs : List Entry) (r : Result Reference Fault)
        → MatchResult r (Granted M k cap es fs (WorkingEntries M k (of M k es u) (of M k es o)) (P.mul (of M k es u) (of M k es o))) (Denied M cap es (WorkingEntries M k (of M k es u) (of M k es o)))
        → MatchResult r (Granted M k cap es fs (WorkingEntries M k (of M k es f) (of M k es g)) (P.mul (of M k es f) (of M k es g))) (Denied M cap es (WorkingEntries M k (of M k es f) (of M k es g)))
    turned_ends cap fs (Ok v) G = granted_same cap es fs _ _ _ _ v turned.to turned.back turned.same G
    turned_ends cap fs (Err e) D = turned_denied cap e D

  -- a coefficient times a reference
  module _ (es : List Entry) (a : Number) (g : Reference) (A : Scalable M k es a g) where
    abbrev v : E
    v = M.value a

    abbrev u : E
    u = M.value g.weight

    abbrev s : Tree E
    s = tree M es g.entry

    pub scaled_zero : zero_code a ≡ true → StandsFor M k es (scaled R k v (of M k es g)) nothing
    scaled_zero z =
        let e : v ≡ R.zero = ap M.value (zero_only a z) ∙ S.codes.zero.1 in
        record {
          lawful = zero_lawful M S es nothing refl refl;
          is = of_nothing es ∙ sym (ap (λ c. scaled R k c (of M k es g)) e ∙ (ap (λ c. P.mul c (of M k es g)) (constant-zero R k) ∙ zero-mul L (of M k es g)));
        }

    light : M.size (R.mul v u) * tree_mass M s ≤ M.limit
    light = omega (arith, A.light, ap (λ n. n * tree_mass M s) (S.sizes.product v u), mul_assoc (M.size v) (M.size u) (tree_mass M s))

    small : M.size (R.mul v u) ≤ M.limit
    small = le_trans (le-mass M (facts S) k (R.mul v u) s (A.kept.reduced g.entry A.second.inside)) light

    pub scaled_never : (e : Fault) → ◌≡◌ {A = Result Number Fault} (Err e) (multiplied M a g.weight) → ⊥
    scaled_never e q = multiplied_err M S a g.weight A.coded A.second.coded small e q

    pub scaled_stands : (c : Number) → zero_code a ≡ false → ◌≡◌ {A = Result Number Fault} (Ok c) (multiplied M a g.weight) → StandsFor M k es (scaled R k v (of M k es g)) (record { weight = c; entry = g.entry })
    scaled_stands c some ok =
        let e : c ≡ M.code (R.mul v u) = multiplied_ok M S a g.weight A.coded A.second.coded small c ok in
        let H = S.codes.has (R.mul v u) small in
        let vc : M.value c ≡ R.mul v u = ap M.value e ∙ H.1 in
        record {
          lawful = record {
            coded = subst (λ z. M.coded z ≡ true) (sym e) H.0;
            inside = A.second.inside;
            lawful = record {
              bare = λ z. A.second.lawful.bare ((facts S).no_divisors v u (sym vc ∙ z) (λ y. false≢true (sym some ∙ (sym (is_zero_code S a A.coded) ∙ (ap (is_zero M) y ∙ (facts S).zero_is)))));
              light = omega (arith, light, ap (λ z. M.size z * tree_mass M s) vc);
            };
          };
          is = ap (λ z. value R k z s) vc ∙ (ap (λ z. P.mul z (meaning R k s)) (sym (constant-mul S.laws k v u)) ∙ L.mul_assoc (constant R k v) (constant R k u) (meaning R k s));
        }

  -- a constant operand
  constant_mass : (es : List Entry) (f : Reference) → f.entry ≡ 0 → mass_of M es f ≡ M.size (M.value f.weight)
  constant_mass es f z = ap (λ n. M.size (M.value f.weight) * tree_mass M (tree M es n)) z ∙ one_leaf M (facts S) (M.value f.weight)

  constant_of : (es : List Entry) (f : Reference) → f.entry ≡ 0 → of M k es f ≡ constant R k (M.value f.weight)
  constant_of es f z = ap (λ n. value R k (M.value f.weight) (tree M es n)) z ∙ L.mul-one (constant R k (M.value f.weight))

  is_constant : (es : List Entry) (f : Reference) → f.entry ≡ 0 → Constant R k (of M k es f)
  is_constant es f z y = ap (λ n. down R k y (value R k (M.value f.weight) (tree M es n))) z ∙ free_value S.laws k y (M.value f.weight) leaf tt tt

  module _ (es : List Entry) (f g : Reference) (A : Multipliable M k es f g) where
    abbrev F : Polynomial E k
    F = of M k es f

    abbrev G : Polynomial E k
    G = of M k es g

    none : Constant R k F ⊎ Constant R k G → Grown (nodes M es) (nodes M es) (WorkingEntries M k F G)
    none c = grown_none (nodes M es) (WorkingEntries M k F G) A.kept.distinct (λ s w. absurd ((working_laws M S k).constant F G c w.polynomial w.works))

    first_scalable : f.entry ≡ 0 → Scalable M k es f.weight g
    first_scalable z = record { kept = A.kept; coded = A.first.coded; second = A.second; light = omega (arith, A.light, ap (λ n. n * mass_of M es g) (constant_mass es f z)) }

    second_scalable : g.entry ≡ 0 → Scalable M k es g.weight f
    second_scalable z = record {
      kept = A.kept;
      coded = A.second.coded;
      second = A.first;
      light = omega (arith, A.light, mul_comm (mass_of M es f) (mass_of M es g), ap (λ n. n * mass_of M es f) (constant_mass es g z));
    }

    abbrev pub Ends : ℕ → Result Reference Fault → Type 0
    Ends cap r = MatchResult r (Granted M k cap es es (WorkingEntries M k (of M k es f) (of M k es g)) ((Poly M.ring k).mul (of M k es f) (of M k es g))) (Denied M cap es (WorkingEntries M k (of M k es f) (of M k es g)))

    of_scaled : (cap : ℕ) → length es ≤ cap → Constant R k F ⊎ Constant R k G → (h : Polynomial E k) → h ≡ P.mul F G → (r : Result Reference Fault) → MatchResult r (StandsFor M k es h) (λ _. ⊥) → Ends cap r
    of_scaled cap room c h e (Ok v) s = record { kept = A.kept; stands = record { lawful = s.lawful; is = s.is ∙ e }; grown = none c; room = room; stays = λ p l. (l, refl) }
    of_scaled cap room c h e (Err b) s = absurd s

    pub first_constant : (cap : ℕ) → length es ≤ cap → f.entry ≡ 0 → (r : Result Reference Fault) → (Scalable M k es f.weight g → MatchResult r (StandsFor M k es (scaled R k (M.value f.weight) G)) (λ _. ⊥)) → Ends cap r
    first_constant cap room z r s =
        of_scaled cap room (inl (is_constant es f z)) (scaled R k (M.value f.weight) G) (ap (λ c. P.mul c G) (sym (constant_of es f z))) r (s (first_scalable z))

    pub second_constant : (cap : ℕ) → length es ≤ cap → g.entry ≡ 0 → (r : Result Reference Fault) → (Scalable M k es g.weight f → MatchResult r (StandsFor M k es (scaled R k (M.value g.weight) F)) (λ _. ⊥)) → Ends cap r
    second_constant cap room z r s =
        of_scaled cap room (inr (is_constant es g z)) (scaled R k (M.value g.weight) F) (ap (λ c. P.mul c F) (sym (constant_of es g z)) ∙ L.mul_comm G F) r (s (second_scalable z))

-- the letters of two entries that are there
pub ordered_first : (es : List Entry) (f g : Reference) (d e : Entry) → (1 ≤ f.entry) × (f.entry ≤ length es) → (1 ≤ g.entry) × (g.entry ≤ length es) → d ≡ get_or es (f.entry - 1) d → e ≡ get_or es (g.entry - 1) e → d.letter ≤ e.letter → Ordered es f g d.letter f g
ordered_first es f g d e hf hg ed ee b = record {
  next = e.letter;
  has = has_letter es f.entry d (λ z. omega (arith, hf.0)) hf.1 ed;
  beside = has_letter es g.entry e (λ z. omega (arith, hg.0)) hg.1 ee;
  which = inl (refl, refl, b);
}

pub ordered_second : (es : List Entry) (f g : Reference) (d e : Entry) → (1 ≤ f.entry) × (f.entry ≤ length es) → (1 ≤ g.entry) × (g.entry ≤ length es) → d ≡ get_or es (f.entry - 1) d → e ≡ get_or es (g.entry - 1) e → e.letter < d.letter → Ordered es f g e.letter g f
ordered_second es f g d e hf hg ed ee b = record {
  next = d.letter;
  has = has_letter es g.entry e (λ z. omega (arith, hg.0)) hg.1 ee;
  beside = has_letter es f.entry d (λ z. omega (arith, hf.0)) hf.1 ed;
  which = inr (refl, refl, b);
}

-- in either order the degrees add up to the same
pub ordered_degree : {E : Type 0} (M : Model E) (es : List Entry) (f g : Reference) (x : ℕ) (u o : Reference) → Ordered es f g x u o
    → tree_degree (tree M es u.entry) + tree_degree (tree M es o.entry) ≡ tree_degree (tree M es f.entry) + tree_degree (tree M es g.entry)
ordered_degree M es f g x u o O = go O.which
  where
    degree : Reference → ℕ
    degree r = tree_degree (tree M es r.entry)

    go : ((u ≡ f) × (o ≡ g) × (x ≤ O.next)) ⊎ ((u ≡ g) × (o ≡ f) × (x < O.next)) → degree u + degree o ≡ degree f + degree g
    go (inl (eu, eo, b)) = ap₂ (λ y z. degree y + degree z) eu eo
    go (inr (eu, eo, b)) = omega (arith, ap₂ (λ y z. degree y + degree z) eu eo)
