-- The stages of a product, over the tables that its calls leave.
use Rattle.std.proofs.Common.{ℕ, ◌+◌, ◌≤◌, List, length, Ok, Err, Result, sym, ◌∙◌, IfOk, MatchResult, arith}
use Rattle.domain.specs.Model.{Model, Sound}
use Rattle.domain.specs.declared.domain.Domain.{Ghosts}
use Rattle.domain.specs.declared.fault.Fault.{Fault}
use Rattle.polynomial.specs.Polynomials.{Poly}
use Rattle.polynomial.specs.Trees.{tree_degree}
use Rattle.polynomial.specs.Working.{Leads}
use Rattle.diagram.specs.Listed.{listed}
use Rattle.diagram.specs.Nodes.{Joined, Granted, Denied}
use Rattle.diagram.specs.Products.{WorkingEntries, Multipliable}
use Rattle.diagram.specs.Sums.{Addable}
use Rattle.diagram.specs.Tables.{tree, of, most_degree}
use Rattle.diagram.specs.Terms.{degree_of, Shallow, Addable as AddableAt, model_of, letter_count, capacity_of, entries_of, SameFrame, Moved, Granted as GrantedAt, Denied as DeniedAt, WorkingOf, product_of, Cuts, Parted, Multipliable as MultipliableAt, Ordered}
use Rattle.diagram.specs.declared.entry.Entry.{Entry}
use Rattle.diagram.specs.declared.entry.Reference.{Reference}
use Rattle.diagram.specs.declared.table.Table.{Table}
use Rattle.diagram.proofs.Lettering.{nothing}
use Rattle.diagram.proofs.Multiplying.{ordered_degree, has_degree, second_degree, third_degree, Turned, turned, cuts, ordered_leads, turned_denied, turned_ends, first, first_denied, second, second_denied, third, third_denied, fourth, whole_ends}
use Rattle.diagram.proofs.Summing.{same_frame, Ends, Joining}

-- how a product ends
abbrev pub Products : {E : Type 0} → Model E → ℕ → ℕ → List Entry → List Entry → Reference → Reference → Result Reference Fault → Type 0
Products M k cap es fs f g r =
    Multipliable M k es f g → MatchResult r (Granted M k cap es fs (WorkingEntries M k (of M k es f) (of M k es g)) ((Poly M.ring k).mul (of M k es f) (of M k es g))) (Denied M cap es (WorkingEntries M k (of M k es f) (of M k es g)))

module _ {D S : Type 0} {B : Ghosts D} where
  pub frame_then : (t u v : Table D S B) → SameFrame t u → SameFrame u v → SameFrame t v
  frame_then t u v a b = record { domain = b.domain ∙ a.domain; order = b.order ∙ a.order; capacity = b.capacity ∙ a.capacity }

  frame_back : (t u : Table D S B) → SameFrame t u → SameFrame u t
  frame_back t u a = record { domain = sym a.domain; order = sym a.order; capacity = sym a.capacity }

  -- what holds over the domain, order and capacity of u holds over those of t
  pub framed : (Q : Model B.carrier → ℕ → ℕ → Type 0) (t u : Table D S B) → SameFrame t u → Q (model_of u) (letter_count u) (capacity_of u) → Q (model_of t) (letter_count t) (capacity_of t)
  framed Q t u s q = same_frame (λ d o c. Q (B.model d) (length (listed o)) c) s.domain s.order s.capacity q

  module _ (t : Table D S B) (sound : Sound (model_of t)) (f g : Reference) (A : MultipliableAt t f g) (x : ℕ) (u o : Reference) (order : Ordered t f g x u o) where
    abbrev M : Model B.carrier
    M = model_of t

    abbrev k : ℕ
    k = letter_count t

    abbrev cap : ℕ
    cap = capacity_of t

    abbrev es : List Entry
    es = entries_of t

    abbrev T : Turned M sound k es f g A t.store.falling x u o order
    T = turned M sound k es f g A t.store.falling x u o order

    pub cuts_first : Cuts t u x
    cuts_first = cuts M sound k es f g A t.store.falling x u o order

    module _ (a h : Reference) (split : Cuts t u x → Parted t u x a h) where
      abbrev part : Parted t u x a h
      part = split cuts_first

      abbrev lead : Leads M.ring k x (of M k es u) (of M k es a) (of M k es h) (of M k es o)
      lead = ordered_leads M sound k es f g A t.store.falling x u o order a h part

      back : (e : Fault) → Denied M cap es (WorkingEntries M k (of M k es u) (of M k es o)) e → DeniedAt t (WorkingOf t f g) e
      back e = turned_denied M sound k es f g A t.store.falling x u o order cap e

      pub low_denied : (t₁ : Table D S B) (e : Fault) → Products M k cap es (entries_of t₁) a o (Err e) → DeniedAt t (WorkingOf t f g) e
      low_denied t₁ e c =
          back e (first_denied M sound k cap es x u o a h A.kept T.right T.light part lead e (c (first M sound k cap es x u o a h A.kept T.right T.light part lead)))

      module _ (t₁ : Table D S B) (low : Reference) (frame₁ : SameFrame t t₁) (move₁ : Moved t t₁) (c₁ : Products M k cap es (entries_of t₁) a o (Ok low)) where
        abbrev g₁ : Granted M k cap es (entries_of t₁) (WorkingEntries M k (of M k es a) (of M k es o)) ((Poly M.ring k).mul (of M k es a) (of M k es o)) low
        g₁ = c₁ (first M sound k cap es x u o a h A.kept T.right T.light part lead)

        high_ends : (t₂ : Table D S B) (r : Result Reference Fault) → Products (model_of t₁) (letter_count t₁) (capacity_of t₁) (entries_of t₁) (entries_of t₂) h o r → Products M k cap (entries_of t₁) (entries_of t₂) h o r
        high_ends t₂ r = framed (λ N j c. Products N j c (entries_of t₁) (entries_of t₂) h o r) t t₁ frame₁

        pub high_denied : (t₂ : Table D S B) (e : Fault) → Products (model_of t₁) (letter_count t₁) (capacity_of t₁) (entries_of t₁) (entries_of t₂) h o (Err e) → DeniedAt t (WorkingOf t f g) e
        high_denied t₂ e c =
            back e
            (second_denied M sound k cap es x u o a h A.kept T.right T.light part lead (entries_of t₁) low move₁ g₁ e
            (high_ends t₂ (Err e) c (second M sound k cap es x u o a h A.kept T.right T.light part lead (entries_of t₁) low move₁ g₁)))

        module _ (t₂ : Table D S B) (high : Reference) (frame₂ : SameFrame t₁ t₂) (move₂ : Moved t₁ t₂) (c₂ : Products (model_of t₁) (letter_count t₁) (capacity_of t₁) (entries_of t₁) (entries_of t₂) h o (Ok high)) where
          abbrev g₂ : Granted M k cap (entries_of t₁) (entries_of t₂) (WorkingEntries M k (of M k (entries_of t₁) h) (of M k (entries_of t₁) o)) ((Poly M.ring k).mul (of M k (entries_of t₁) h) (of M k (entries_of t₁) o)) high
          g₂ = high_ends t₂ (Ok high) c₂ (second M sound k cap es x u o a h A.kept T.right T.light part lead (entries_of t₁) low move₁ g₁)

          abbrev frame_two : SameFrame t t₂
          frame_two = frame_then t t₁ t₂ frame₁ frame₂

          node_ends : (t₃ : Table D S B) (r : Result Reference Fault) → Joining (model_of t₂) (letter_count t₂) (capacity_of t₂) (entries_of t₂) (entries_of t₃) x nothing high r → Joining M k cap (entries_of t₂) (entries_of t₃) x nothing high r
          node_ends t₃ r = framed (λ N j c. Joining N j c (entries_of t₂) (entries_of t₃) x nothing high r) t t₂ frame_two

          pub node_denied : (t₃ : Table D S B) (e : Fault) → Joining (model_of t₂) (letter_count t₂) (capacity_of t₂) (entries_of t₂) (entries_of t₃) x nothing high (Err e) → DeniedAt t (WorkingOf t f g) e
          node_denied t₃ e c =
              back e
              (third_denied M sound k cap es x u o a h A.kept T.right T.light part lead (entries_of t₁) low move₁ g₁ (entries_of t₂) high move₂ g₂ e
              (node_ends t₃ (Err e) c (third M sound k cap es x u o a h A.kept T.right T.light part lead (entries_of t₁) low move₁ g₁ (entries_of t₂) high move₂ g₂)))

          module _ (t₃ : Table D S B) (up : Reference) (frame₃ : SameFrame t₂ t₃) (move₃ : Moved t₂ t₃) (c₃ : Joining (model_of t₂) (letter_count t₂) (capacity_of t₂) (entries_of t₂) (entries_of t₃) x nothing high (Ok up)) where
            abbrev joined : Joined M k cap (entries_of t₂) (entries_of t₃) x nothing high up
            joined = node_ends t₃ (Ok up) c₃ (third M sound k cap es x u o a h A.kept T.right T.light part lead (entries_of t₁) low move₁ g₁ (entries_of t₂) high move₂ g₂)

            pub product_ends : (t₄ : Table D S B) (r : Result Reference Fault) → Ends (model_of t₃) (letter_count t₃) (capacity_of t₃) (entries_of t₃) (entries_of t₄) low up r
                → MatchResult r (GrantedAt t t₄ (WorkingOf t f g) (product_of t f g)) (DeniedAt t (WorkingOf t f g))
            product_ends t₄ r c =
                turned_ends M sound k es f g A t.store.falling x u o order cap (entries_of t₄) r
                (whole_ends M sound k cap es x u o a h A.kept T.right T.light part lead (entries_of t₁) low move₁ g₁ (entries_of t₂) high move₂ g₂ (entries_of t₃) up move₃ joined (entries_of t₄) r
                (framed (λ N j c. Ends N j c (entries_of t₃) (entries_of t₄) low up r) t t₃ (frame_then t t₂ t₃ frame_two frame₃) c
                (fourth M sound k cap es x u o a h A.kept T.right T.light part lead (entries_of t₁) low move₁ g₁ (entries_of t₂) high move₂ g₂ (entries_of t₃) up move₃ joined)))

            -- no entry has a degree over that of a product, where those of the operands add up to no more
            pub product_shallow : (t₄ : Table D S B) (r : Result Reference Fault) → degree_of t f.entry + degree_of t g.entry ≤ most_degree → Shallow t
                → (MultipliableAt t a o → degree_of t a.entry + degree_of t o.entry ≤ most_degree → Shallow t → Shallow t₁)
                → (MultipliableAt t₁ h o → degree_of t₁ h.entry + degree_of t₁ o.entry ≤ most_degree → Shallow t₁ → Shallow t₂) → (Shallow t₂ → 1 + degree_of t₂ high.entry ≤ most_degree → Shallow t₃)
                → (AddableAt t₃ low up → Shallow t₃ → IfOk r (λ _. Shallow t₄)) → IfOk r (λ _. Shallow t₄)
            product_shallow t₄ r small shallow s₁ s₂ s₃ s₄ =
                let sums = ordered_degree M es f g x u o order in
                let degree : tree_degree (tree M es u.entry) + tree_degree (tree M es o.entry) ≤ most_degree = omega (arith, sums, small) in
                let some = has_degree M sound k es A.kept t.store.falling u T.left x order.has in
                let one = first M sound k cap es x u o a h A.kept T.right T.light part lead in
                let two = second M sound k cap es x u o a h A.kept T.right T.light part lead (entries_of t₁) low move₁ g₁ in
                let d₂ = second_degree M sound k cap es x u o a h A.kept T.right T.light part lead (entries_of t₁) low move₁ g₁ most_degree some degree in
                let d₃ = third_degree M sound k cap es x u o a h A.kept T.right T.light part lead (entries_of t₁) low move₁ g₁ (entries_of t₂) high move₂ g₂ most_degree some degree in
                let four = fourth M sound k cap es x u o a h A.kept T.right T.light part lead (entries_of t₁) low move₁ g₁ (entries_of t₂) high move₂ g₂ (entries_of t₃) up move₃ joined in
                let back₁ = frame_back t t₁ frame₁ in
                let back₂ = frame_back t t₂ frame_two in
                let back₃ = frame_back t t₃ (frame_then t t₂ t₃ frame_two frame₃) in
                let shallow₁ = s₁ one (omega (arith, degree, part.below)) shallow in
                let shallow₂ = s₂ (framed (λ N j c. Multipliable N j (entries_of t₁) h o) t₁ t back₁ two) (framed (λ N j c. tree_degree (tree N (entries_of t₁) h.entry) + tree_degree (tree N (entries_of t₁) o.entry) ≤ most_degree) t₁ t back₁ d₂) shallow₁ in
                let shallow₃ = s₃ shallow₂ (framed (λ N j c. 1 + tree_degree (tree N (entries_of t₂) high.entry) ≤ most_degree) t₂ t back₂ d₃) in
                s₄ (framed (λ N j c. Addable N j (entries_of t₃) low up) t₃ t back₃ four) shallow₃
