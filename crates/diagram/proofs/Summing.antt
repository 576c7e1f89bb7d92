-- A sum by its parts.
use Rattle.std.proofs.Common.{◌≡◌, ℕ, zero, suc, ◌+◌, ◌*◌, ◌<◌, ◌≤◌, Bool, true, cond, leb, List, [], ◌++◌, length, Ok, Err, Result, sym, refl, ap, ◌∙◌, subst, ap₂, append_assoc, append-nil, arith, IfOk, MatchResult}
use Rattle.std.proofs.lemmas.Bool.{le-leb}
use Rattle.domain.specs.Answers.{added}
use Rattle.domain.specs.Model.{Model, Sound}
use Rattle.domain.specs.Numbers.{no_code}
use Rattle.domain.specs.Ring.{Ring, Laws}
use Rattle.domain.specs.declared.fault.Fault.{Fault}
use Rattle.domain.specs.declared.fault.Fault.TheVariants.{OverLimit}
use Rattle.domain.specs.declared.number.Number.{Number}
use Rattle.polynomial.specs.Diagrams.{InDiagram}
use Rattle.polynomial.specs.Masses.{Bounded}
use Rattle.polynomial.specs.Needs.{Splits}
use Rattle.polynomial.specs.Polynomials.{Polynomial, Poly, constant, letter}
use Rattle.polynomial.specs.Theorems.{Reference as Form}
use Rattle.polynomial.specs.Trees.{tree_mass, tree_degree, height, value}
use Rattle.polynomial.proofs.Down.{down-add}
use Rattle.polynomial.proofs.ElementFacts.{facts}
use Rattle.polynomial.proofs.GrowthLaws.{grown_none}
use Rattle.polynomial.proofs.References.{one_leaf}
use Rattle.polynomial.proofs.Rings.{add-mul, interchange}
use Rattle.polynomial.proofs.SeriesRing.{series_ext, poly_laws}
use Rattle.polynomial.proofs.Theorems.{mass_laws, existence}
use Rattle.polynomial.proofs.TreeMasses.{tree-mass-add}
use Rattle.diagram.specs.Nodes.{Moved, Joins, Wanted, Joined, Granted, Denied}
use Rattle.diagram.specs.Parts.{Top, Cuts, Parted}
use Rattle.diagram.specs.Sums.{Addable}
use Rattle.diagram.specs.Tables.{most_degree, ShallowOver, nodes, tree, of, mass_of, LawfulIn}
use Rattle.diagram.specs.declared.entry.Entry.{Entry}
use Rattle.diagram.specs.declared.entry.Reference.{Reference}
use Rattle.diagram.proofs.Degrees.{degree_sum}
use Rattle.diagram.proofs.Lettering.{stays_moved}
use Rattle.diagram.proofs.Numbering.{tree_more}
use Rattle.diagram.proofs.Steps.{form_of, diagram_inside, denied_low, denied_high, joins_over, granted_over, denied_over}

-- entries that were appended twice were appended
pub moved_none : (es : List Entry) → Moved es es
moved_none es = record { more = []; is = sym (append-nil es) }

pub moved_then : (es fs gs : List Entry) → Moved es fs → Moved fs gs → Moved es gs
moved_then es fs gs m n = record { more = m.more ++ n.more; is = n.is ∙ (ap (λ l. l ++ n.more) m.is ∙ append_assoc es m.more n.more) }

pub moved_by : {X : Type 0} (entries : X → List Entry) (t u : X) (Q : Reference → Type 0) (r : Result Reference Fault) → MatchResult r (λ v. Moved (entries t) (entries u) × Q v) (λ _. u ≡ t) → Moved (entries t) (entries u)
moved_by entries t u Q (Ok v) h = h.0
moved_by entries t u Q (Err b) h = subst (λ v. Moved (entries t) (entries v)) (sym h) (moved_none (entries t))

pub if_ok : {X Y : Type 0} (r : Result X Y) (P : Type 0) → P → IfOk r (λ _. P)
if_ok (Ok x) P h = h
if_ok (Err y) P h = tt

-- what holds of a domain, an order and a capacity holds of the same
pub same_frame : {A B : Type 0} {a a' : A} {b b' : B} {n n' : ℕ} (P : A → B → ℕ → Type 0) → a ≡ a' → b ≡ b' → n ≡ n' → P a b n → P a' b' n'
same_frame {a} {b} {b'} {n'} P e f g h = subst (λ z. P z b' n') e (subst (λ z. P a z n') f (subst (λ z. P a b z) g h))

-- how a sum ends, and how the entry over its parts
abbrev pub Ends : {E : Type 0} (M : Model E) (k cap : ℕ) (es fs : List Entry) (f g : Reference) → Result Reference Fault → Type 0
Ends M k cap es fs f g r =
    Addable M k es f g → MatchResult r (Granted M k cap es fs (InDiagram M k ((Poly M.ring k).add (of M k es f) (of M k es g))) ((Poly M.ring k).add (of M k es f) (of M k es g))) (Denied M cap es (InDiagram M k ((Poly M.ring k).add (of M k es f) (of M k es g))))

abbrev pub Joining : {E : Type 0} (M : Model E) (k cap : ℕ) (es fs : List Entry) (x : ℕ) (p q : Reference) → Result Reference Fault → Type 0
Joining M k cap es fs x p q r = Joins M k es x p q → MatchResult r (Joined M k cap es fs x p q) (Denied M cap es (Wanted M es x p q))

bounded_more : {E : Type 0} (R : Ring E) (d e k : ℕ) (f : Polynomial E k) → d ≤ e → Bounded R d k f → Bounded R e k f
bounded_more R d e zero f l b = tt
bounded_more R d e (suc k) f l b = (λ i h. b.0 i (omega arith), λ i. bounded_more R d e k (f i) l (b.1 i))

bounded_add : {E : Type 0} {R : Ring E} (L : Laws R) (d k : ℕ) (f g : Polynomial E k) → Bounded R d k f → Bounded R d k g → Bounded R d k ((Poly R k).add f g)
bounded_add L d zero f g a b = tt
bounded_add {R} L d (suc k) f g a b = (λ i h. cc (a.0 i h, b.0 i h, (poly_laws L k).add-zero (Poly R k).zero), λ i. bounded_add L d k (f i) (g i) (a.1 i) (b.1 i))

constant_add : {E : Type 0} {R : Ring E} (L : Laws R) (k : ℕ) (a b : E) → constant R k (R.add a b) ≡ (Poly R k).add (constant R k a) (constant R k b)
constant_add L zero a b = refl
constant_add {R} L (suc k) a b = series_ext _ _ (constant_add L k a b) (λ e. sym ((poly_laws L k).add-zero (Poly R k).zero))

module _ {E : Type 0} (M : Model E) (S : Sound M) (a b : Number) (ca : M.coded a ≡ true) (cb : M.coded b ≡ true) (small : M.size (M.ring.add (M.value a) (M.value b)) ≤ M.limit) where
  abbrev z : E
  z = M.ring.add (M.value a) (M.value b)

  is_ok : added M a b ≡ Ok (M.code z)
  is_ok =
      ap (λ (t : Bool). cond {A = Result Number Fault} t (cond (M.coded b) (cond (leb (M.size z) M.limit) (Ok (M.code z)) (Err (OverLimit M.limit))) (Err (no_code b))) (Err (no_code a))) ca
      ∙ (ap (λ (t : Bool). cond {A = Result Number Fault} t (cond (leb (M.size z) M.limit) (Ok (M.code z)) (Err (OverLimit M.limit))) (Err (no_code b))) cb
      ∙ ap (λ (t : Bool). cond {A = Result Number Fault} t (Ok (M.code z)) (Err (OverLimit M.limit))) (le-leb (M.size z) M.limit small))

  added_ok : (w : Number) → ◌≡◌ {A = Result Number Fault} (Ok w) (added M a b) → w ≡ M.code z
  added_ok w e = let h = e ∙ is_ok in cc

module _ {E : Type 0} (M : Model E) (S : Sound M) (k : ℕ) where
  abbrev R : Ring E
  R = M.ring

  abbrev P : Ring (Polynomial E k)
  P = Poly M.ring k

  abbrev pub sum : List Entry → Reference → Reference → Polynomial E k
  sum es f g = (Poly M.ring k).add (of M k es f) (of M k es g)

  mass_moved : (es fs : List Entry) (f : Reference) → Moved es fs → f.entry ≤ length es → mass_of M fs f ≡ mass_of M es f
  mass_moved es fs f m h = ap (λ l. mass_of M l f) m.is ∙ ap (λ t. M.size (M.value f.weight) * tree_mass M t) (tree_more M es m.more f.entry h)

  -- the sum has a lawful reference
  pub sum_form : (es : List Entry) (f g : Reference) → Addable M k es f g → Form M k (sum es f g)
  sum_form es f g A =
      let t = tree M es f.entry in
      let u = tree M es g.entry in
      let d = height t + height u in
      let L = mass_laws M S k in
      let v = M.value f.weight in
      let w = M.value g.weight in
      let mf = L.reference d v t (A.kept.reduced f.entry A.first.inside) (omega arith) in
      let mg = L.reference d w u (A.kept.reduced g.entry A.second.inside) (omega arith) in
      (existence M S k d (sum es f g)
      (bounded_add S.laws d k (value R k v t) (value R k w u) (bounded_more R (height t) d k (value R k v t) (omega arith) (L.bounded v t)) (bounded_more R (height u) d k (value R k w u) (omega arith) (L.bounded w u)))
      (omega (arith, mf, mg, L.sum d (value R k v t) (value R k w u), A.light))).0

  -- two references to 1
  module _ (es : List Entry) (f g : Reference) (A : Addable M k es f g) (zf : f.entry ≡ 0) (zg : g.entry ≡ 0) where
    abbrev a : E
    a = M.value f.weight

    abbrev b : E
    b = M.value g.weight

    mass-one : (h : Reference) → h.entry ≡ 0 → mass_of M es h ≡ M.size (M.value h.weight)
    mass-one h z = ap (λ n. M.size (M.value h.weight) * tree_mass M (tree M es n)) z ∙ one_leaf M (facts S) (M.value h.weight)

    ones_small : M.size (R.add a b) ≤ M.limit
    ones_small = omega (arith, S.sizes.sum a b, mass-one f zf, mass-one g zg, A.light)

    pub ones_granted : (cap : ℕ) (v : Number) → length es ≤ cap → ◌≡◌ {A = Result Number Fault} (Ok v) (added M f.weight g.weight) → Granted M k cap es es (InDiagram M k (sum es f g)) (sum es f g) (record { weight = v; entry = 0 })
    ones_granted cap v room ok =
        let L = poly_laws S.laws k in
        let r : Reference = record { weight = v; entry = 0 } in
        let ev : v ≡ M.code (R.add a b) = added_ok M S f.weight g.weight A.first.coded A.second.coded ones_small v ok in
        let H = S.codes.has (R.add a b) ones_small in
        let vv : M.value v ≡ R.add a b = ap M.value ev ∙ H.1 in
        let lawful : LawfulIn M es r = record {
          coded = subst (λ z. M.coded z ≡ true) (sym ev) H.0;
          inside = omega arith;
          lawful = record { bare = λ _. refl; light = omega (arith, one_leaf M (facts S) (M.value v), ap M.size vv, ones_small) };
        } in
        let one : (h : Reference) → h.entry ≡ 0 → of M k es h ≡ P.mul (constant R k (M.value h.weight)) P.one = λ h z. ap (λ n. value R k (M.value h.weight) (tree M es n)) z in
        let is : of M k es r ≡ sum es f g = cc (vv, constant_add S.laws k a b, add-mul L (constant R k a) (constant R k b) P.one, one f zf, one g zg) in
        record {
          kept = A.kept;
          stands = record { lawful = lawful; is = is };
          grown = grown_none (nodes M es) (InDiagram M k (sum es f g)) A.kept.distinct (λ s D. absurd (diagram_inside M S k (sum es f g) (form_of M S k es r (sum es f g) A.kept lawful is) s D));
          room = room;
          stays = λ h l. (l, refl);
        }

  splits_add : (x : ℕ) (f a h g b i : Polynomial E k) → Splits R k x f a h → Splits R k x g b i → Splits R k x (P.add f g) (P.add a b) (P.add h i)
  splits_add x f a h g b i A B =
      let L = poly_laws S.laws k in
      let X = letter R k x in
      record {
        known = A.known;
        means = cc (A.means, B.means, interchange L (P.mul X h) a (P.mul X i) b, L.mul-add X h i);
        low = λ y l. cc (down-add S.laws k y a b, A.low y l, B.low y l, L.add-zero P.zero);
        high = λ y l. cc (down-add S.laws k y h i, A.high y l, B.high y l, L.add-zero P.zero);
      }

  -- two references in parts
  module _ (es : List Entry) (x : ℕ) (f g f_low f_high g_low g_high : Reference) (A : Addable M k es f g) (known : x < k) (top : Top es f.entry g.entry x) (part_f : Cuts M k es f x → Parted M k es f x f_low f_high) (part_g : Cuts M k es g x → Parted M k es g x g_low g_high) where
    pf : Parted M k es f x f_low f_high
    pf = part_f (record { kept = A.kept; lawful = A.first; known = known; leads = top.first })

    pg : Parted M k es g x g_low g_high
    pg = part_g (record { kept = A.kept; lawful = A.second; known = known; leads = top.second })

    abbrev F : Polynomial E k
    F = sum es f g

    abbrev Low : Polynomial E k
    Low = sum es f_low g_low

    abbrev High : Polynomial E k
    High = sum es f_high g_high

    splits : Splits R k x F Low High
    splits = splits_add x (of M k es f) (of M k es f_low) (of M k es f_high) (of M k es g) (of M k es g_low) (of M k es g_high) pf.splits pg.splits

    form : Form M k F
    form = sum_form es f g A

    pub low_addable : Addable M k es f_low g_low
    low_addable = record { kept = A.kept; first = pf.left; second = pg.left; light = omega (arith, A.light, pf.weighs, pg.weighs) }

    -- a refusal of the sum of the first parts
    pub low_fails : (cap : ℕ) (es₁ : List Entry) (b : Fault) → Ends M k cap es es₁ f_low g_low (Err b) → Denied M cap es (InDiagram M k F) b
    low_fails cap es₁ b h = denied_low M S k x F Low High splits form cap es b (h low_addable)

    module _ (cap : ℕ) (es₁ : List Entry) (p : Reference) (move : Moved es es₁) (low_ends : Ends M k cap es es₁ f_low g_low (Ok p)) where
      G : Granted M k cap es es₁ (InDiagram M k Low) Low p
      G = low_ends low_addable

      abbrev first : LawfulIn M es₁ f_high × (of M k es₁ f_high ≡ of M k es f_high)
      first = stays_moved M k es es₁ move f_high pf.right

      abbrev second : LawfulIn M es₁ g_high × (of M k es₁ g_high ≡ of M k es g_high)
      second = stays_moved M k es es₁ move g_high pg.right

      pub high_addable : Addable M k es₁ f_high g_high
      high_addable = record {
        kept = G.kept;
        first = first.0;
        second = second.0;
        light = omega (arith, A.light, pf.weighs, pg.weighs, mass_moved es es₁ f_high move pf.right.inside, mass_moved es es₁ g_high move pg.right.inside);
      }

      same : sum es₁ f_high g_high ≡ High
      same = ap₂ P.add first.1 second.1

      -- and of the second
      pub high_fails : (es₂ : List Entry) (b : Fault) → Ends M k cap es₁ es₂ f_high g_high (Err b) → Denied M cap es (InDiagram M k F) b
      high_fails es₂ b h = denied_high M S k x F Low High splits form cap es es₁ p b G (subst (λ h. Denied M cap es₁ (InDiagram M k h) b) same (h high_addable))

      module _ (es₂ : List Entry) (q : Reference) (move₂ : Moved es₁ es₂) (high_ends : Ends M k cap es₁ es₂ f_high g_high (Ok q)) where
        H : Granted M k cap es₁ es₂ (InDiagram M k High) High q
        H = subst (λ h. Granted M k cap es₁ es₂ (InDiagram M k h) h q) same (high_ends high_addable)

        low_light : mass_of M es₁ p ≤ mass_of M es f_low + mass_of M es g_low
        low_light =
            tree-mass-add M (facts S) k (M.value p.weight) (M.value f_low.weight) (M.value g_low.weight) (tree M es₁ p.entry) (tree M es f_low.entry) (tree M es g_low.entry)
            (G.kept.reduced p.entry G.stands.lawful.inside) (A.kept.reduced f_low.entry pf.left.inside) (A.kept.reduced g_low.entry pg.left.inside) G.stands.is

        high_light : mass_of M es₂ q ≤ mass_of M es f_high + mass_of M es g_high
        high_light =
            tree-mass-add M (facts S) k (M.value q.weight) (M.value f_high.weight) (M.value g_high.weight) (tree M es₂ q.entry) (tree M es f_high.entry) (tree M es g_high.entry)
            (H.kept.reduced q.entry H.stands.lawful.inside) (A.kept.reduced f_high.entry pf.right.inside) (A.kept.reduced g_high.entry pg.right.inside) H.stands.is

        light : mass_of M es₂ p + mass_of M es₂ q ≤ M.limit
        light = omega (arith, low_light, high_light, A.light, pf.weighs, pg.weighs, mass_moved es₁ es₂ p move₂ G.stands.lawful.inside)

        -- it is of no degree over that of a product
        pub sum_degree : ShallowOver M es → 1 + tree_degree (tree M es₂ q.entry) ≤ most_degree
        sum_degree shallow =
            let d = degree_sum M S k (M.value q.weight) (M.value f_high.weight) (M.value g_high.weight) (tree M es₂ q.entry) (tree M es f_high.entry) (tree M es g_high.entry)
            (H.kept.reduced q.entry H.stands.lawful.inside) (A.kept.reduced f_high.entry pf.right.inside) (A.kept.reduced g_high.entry pg.right.inside)
            H.stands.lawful.lawful pf.right.lawful pg.right.lawful H.stands.is in
            omega (arith, d, pf.degree, pg.degree, shallow f.entry A.first.inside, shallow g.entry A.second.inside)

        sum_joins : Joins M k es₂ x p q
        sum_joins = joins_over M S k x F Low High splits cap es es₁ es₂ p q G move₂ H light

        -- the entry over both
        pub sum_ends : (es₃ : List Entry) (r : Result Reference Fault) → Moved es₂ es₃ → Joining M k cap es₂ es₃ x p q r
            → MatchResult r (Granted M k cap es es₃ (InDiagram M k F) F) (Denied M cap es (InDiagram M k F))
        sum_ends es₃ r more h = go r (h sum_joins)
          where
            go : (r : Result Reference Fault) → MatchResult r (Joined M k cap es₂ es₃ x p q) (Denied M cap es₂ (Wanted M es₂ x p q)) → MatchResult r (Granted M k cap es es₃ (InDiagram M k F) F) (Denied M cap es (InDiagram M k F))
            go (Ok v) J = granted_over M S k x F Low High splits cap es es₁ es₂ p q G move₂ H light es₃ v more J
            go (Err b) D = denied_over M S k x F Low High splits cap es es₁ es₂ p q G move₂ H light b D
