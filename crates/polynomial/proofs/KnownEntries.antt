-- Entries without repetition stand for trees without repetition.
use Rattle.std.proofs.Common.{◌≡◌, ℕ, zero, suc, ◌+◌, ◌<◌, ◌≤◌, ◌≢◌, ◌⊎◌, List, [], ◌∷◌, ◌++◌, length, get_or, sym, refl, ap, ◌∙◌, subst, ap₂, inl, inr, append_assoc, append-nil, arith, length-append}
use Rattle.polynomial.specs.Entries.{Entry, look, stands, trees_after, trees, Edges, Linked}
use Rattle.polynomial.specs.Growth.{Grown}
use Rattle.polynomial.specs.Lists.{Among, Distinct}
use Rattle.polynomial.specs.Trees.{Tree, leaf, node}
use Rattle.polynomial.proofs.Pigeonhole.{among_left, among_right, among_either, among_eq}
use Rattle.polynomial.proofs.GrowthLaws.{news, after_news, grown_one}
use Rattle.polynomial.proofs.GrowingTrees.{look-append}

pub get_or-among : {E : Type 0} (ts : List (Tree E)) (i : ℕ) → i < length ts → Among (get_or ts i leaf) ts
get_or-among [] i h = absurd (omega arith)
get_or-among (t ∷ ts) zero h = inl refl
get_or-among (t ∷ ts) (suc i) h = inr (get_or-among ts i (omega arith))

get_or-inj : {E : Type 0} (ts : List (Tree E)) → Distinct ts → (i j : ℕ) → i < length ts → j < length ts → get_or ts i leaf ≡ get_or ts j leaf → i ≡ j
get_or-inj [] d i j h g e = absurd (omega arith)
get_or-inj (t ∷ ts) d zero zero h g e = refl
get_or-inj (t ∷ ts) d zero (suc j) h g e = absurd (d.0 (among_eq t (get_or ts j leaf) ts e (get_or-among ts j (omega arith))))
get_or-inj (t ∷ ts) d (suc i) zero h g e = absurd (d.0 (among_eq t (get_or ts i leaf) ts (sym e) (get_or-among ts i (omega arith))))
get_or-inj (t ∷ ts) d (suc i) (suc j) h g e = ap suc (get_or-inj ts d.1 i j (omega arith) (omega arith) e)

look_mid : {E : Type 0} (ts : List (Tree E)) (t : Tree E) (us : List (Tree E)) → get_or (ts ++ (t ∷ us)) (length ts) leaf ≡ t
look_mid [] t us = refl
look_mid (u ∷ ts) t us = look_mid ts t us

-- every tree of the list is that of an entry
pub record Origin {E : Type 0} (fs : List (Entry E)) (ts : List (Tree E)) (t : Tree E) : Type 0 where
  pub entry : Entry E
  pub here : Among entry fs
  pub edges : Edges (length ts) entry
  pub is : t ≡ stands ts entry

module _ {E : Type 0} where
  look_inj : (ts : List (Tree E)) → Distinct ts → ((t : Tree E) → Among t ts → t ≢ leaf) → (i j : ℕ) → i ≤ length ts → j ≤ length ts → look ts i ≡ look ts j → i ≡ j
  look_inj ts d nl zero zero h g e = refl
  look_inj ts d nl zero (suc j) h g e = absurd (nl (get_or ts j leaf) (get_or-among ts j g) (sym e))
  look_inj ts d nl (suc i) zero h g e = absurd (nl (get_or ts i leaf) (get_or-among ts i h) e)
  look_inj ts d nl (suc i) (suc j) h g e = ap suc (get_or-inj ts d i j h g e)

  stands_more : (ts us : List (Tree E)) (e : Entry E) → Edges (length ts) e → stands (ts ++ us) e ≡ stands ts e
  stands_more ts us e h = ap₂ (λ a b. node e.letter e.p a e.q b) (look-append ts us e.lo h.lo) (look-append ts us e.hi h.hi)

  origin_more : (fs : List (Entry E)) (ts : List (Tree E)) (e : Entry E) → Edges (length ts) e → ((t : Tree E) → Among t ts → Origin fs ts t) → (t : Tree E) → Among t (ts ++ (stands ts e ∷ [])) → Origin (fs ++ (e ∷ [])) (ts ++ (stands ts e ∷ [])) t
  origin_more fs ts e g h t a = go (among_either t ts (stands ts e ∷ []) a)
    where
      longer : (f : Entry E) → Edges (length ts) f → Edges (length (ts ++ (stands ts e ∷ []))) f
      longer f k = let l = length-append ts (stands ts e ∷ []) in record { lo = omega (arith, k.lo); hi = omega (arith, k.hi) }

      go : Among t ts ⊎ Among t (stands ts e ∷ []) → Origin (fs ++ (e ∷ [])) (ts ++ (stands ts e ∷ [])) t
      go (inl i) =
          let O = h t i in
          record {
            entry = O.entry;
            here = among_left O.entry fs (e ∷ []) O.here;
            edges = longer O.entry O.edges;
            is = O.is ∙ sym (stands_more ts (stands ts e ∷ []) O.entry O.edges);
          }
      go (inr (inl q)) = record { entry = e; here = among_right e fs (e ∷ []) (inl refl); edges = longer e g; is = q ∙ sym (stands_more ts (stands ts e ∷ []) e g) }
      go (inr (inr q)) = absurd q

  origin_after : (es fs : List (Entry E)) (ts : List (Tree E)) → Linked (length ts) es → ((t : Tree E) → Among t ts → Origin fs ts t) → (t : Tree E) → Among t (trees_after ts es) → Origin (fs ++ es) (trees_after ts es) t
  origin_after [] fs ts l h t a = subst (λ gs. Origin gs ts t) (sym (append-nil fs)) (h t a)
  origin_after (e ∷ es) fs ts l h t a =
      let n : suc (length ts) ≡ length (ts ++ (stands ts e ∷ [])) = omega (arith, length-append ts (stands ts e ∷ [])) in
      subst (λ gs. Origin gs (trees_after ts (e ∷ es)) t) (append_assoc fs (e ∷ []) es)
      (origin_after es (fs ++ (e ∷ [])) (ts ++ (stands ts e ∷ [])) (subst (λ z. Linked z es) n l.1) (origin_more fs ts e l.0 h) t a)

  origin : (es : List (Entry E)) → Linked 0 es → (t : Tree E) → Among t (trees es) → Origin es (trees es) t
  origin es l t a = origin_after es [] [] l (λ t a. absurd a) t a

  -- a tree that is there is there by an entry that is there
  pub known_entry : (es : List (Entry E)) → Linked 0 es → Distinct (trees es) → (e : Entry E) → Edges (length (trees es)) e → Among (stands (trees es) e) (trees es) → Among e es
  known_entry es l d e g a =
      let T = trees es in
      let O = origin es l (stands T e) a in
      let f = O.entry in
      let nl : (t : Tree E) → Among t T → t ≢ leaf = λ t i z. let Q = origin es l t i in let w : ◌≡◌ {A = ℕ} 0 1 = cc Q.is in omega arith in
      let q = O.is in
      let e_lo : look T e.lo ≡ look T f.lo = cc in
      let e_hi : look T e.hi ≡ look T f.hi = cc in
      let e_letter : e.letter ≡ f.letter = cc in
      let e_p : e.p ≡ f.p = cc in
      let e_q : e.q ≡ f.q = cc in
      let lo = look_inj T d nl e.lo f.lo g.lo O.edges.lo e_lo in
      let hi = look_inj T d nl e.hi f.hi g.hi O.edges.hi e_hi in
      among_eq e f es (λ k. record { letter = e_letter k; p = e_p k; lo = lo k; q = e_q k; hi = hi k }) O.here

  -- so what the table of entries lacks is a new tree
  pub grown_entry : (es : List (Entry E)) → Linked 0 es → Distinct (trees es) → (e : Entry E) → Edges (length (trees es)) e → (Among e es → ⊥) → Grown es (es ++ (e ∷ [])) (λ t. t ≡ stands (trees es) e)
  grown_entry es l d e g h = grown_one es e d (λ a. h (known_entry es l d e g a))

  -- the tree at a number, by the entry at that number
  unrolled_after : (d : Entry E) (es : List (Entry E)) (ts : List (Tree E)) → Linked (length ts) es → (i : ℕ) → i < length es → get_or (trees_after ts es) (length ts + i) leaf ≡ stands (trees_after ts es) (get_or es i d)
  unrolled_after d [] ts l i h = absurd (omega arith)
  unrolled_after d (e ∷ es) ts l zero h =
      let u = stands ts e in
      let N = news (ts ++ (u ∷ [])) es in
      let q : trees_after ts (e ∷ es) ≡ ts ++ (u ∷ N) = after_news ts (e ∷ es) in
      let z : length ts + 0 ≡ length ts = omega arith in
      ap₂ (λ a b. get_or a b leaf) q z ∙ (look_mid ts u N ∙ sym (ap (λ a. stands a e) q ∙ stands_more ts (u ∷ N) e l.0))
  unrolled_after d (e ∷ es) ts l (suc i) h =
      let u = stands ts e in
      let n : suc (length ts) ≡ length (ts ++ (u ∷ [])) = omega (arith, length-append ts (u ∷ [])) in
      let z : length ts + suc i ≡ length (ts ++ (u ∷ [])) + i = omega arith in
      ap (λ b. get_or (trees_after ts (e ∷ es)) b leaf) z ∙ unrolled_after d es (ts ++ (u ∷ [])) (subst (λ z. Linked z es) n l.1) i (omega arith)

  pub unrolled : (d : Entry E) (es : List (Entry E)) → Linked 0 es → (i : ℕ) → i < length es → look (trees es) (suc i) ≡ stands (trees es) (get_or es i d)
  unrolled d es l i h = let z : 0 + i ≡ i = omega arith in ap (λ b. get_or (trees es) b leaf) (sym z) ∙ unrolled_after d es [] l i h

  pub linked_of : (d : Entry E) (es : List (Entry E)) (n : ℕ) → ((i : ℕ) → i < length es → Edges (n + i) (get_or es i d)) → Linked n es
  linked_of d [] n h = tt
  linked_of d (e ∷ es) n h =
      let a = h 0 (omega arith) in (
        record { lo = omega (arith, a.lo); hi = omega (arith, a.hi) },
        linked_of d es (suc n) (λ i l. let b = h (suc i) (omega arith) in record { lo = omega (arith, b.lo); hi = omega (arith, b.hi) }),
      )
