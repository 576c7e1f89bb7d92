-- How growth composes: in two steps, with a refusal on the way, and how many entries there are afterwards.
use Rattle.std.proofs.Common.{◌≡◌, ℕ, suc, ◌+◌, ◌<◌, ◌≤◌, Bool, true, false, ◌⊎◌, List, [], ◌∷◌, ◌++◌, length, sym, refl, ap, ◌∙◌, subst, inl, inr, append_assoc, append-nil, arith, length-append}
use Rattle.polynomial.specs.Entries.{Entry, stands, trees_after, trees}
use Rattle.polynomial.specs.Growth.{Either, Within, Grown, Lacks, Overfull, Outcome}
use Rattle.polynomial.specs.Lists.{Among, Distinct}
use Rattle.polynomial.specs.Trees.{Tree}
use Rattle.polynomial.proofs.Pigeonhole.{among_left, among_right, among_either, among_eq, no_more, distinct_append, distinct_left, distinct_right, distinct_apart}
use Rattle.polynomial.proofs.Minimality.{length-trees}

-- the trees of more entries
abbrev pub news : {E : Type 0} → List (Tree E) → List (Entry E) → List (Tree E)
news ts [] = []
news ts (e ∷ es) = stands ts e ∷ news (ts ++ (stands ts e ∷ [])) es

module _ {E : Type 0} where
  length-news : (ts : List (Tree E)) (es : List (Entry E)) → length (news ts es) ≡ length es
  length-news ts [] = refl
  length-news ts (e ∷ es) = ap suc (length-news (ts ++ (stands ts e ∷ [])) es)

  pub after_news : (ts : List (Tree E)) (es : List (Entry E)) → trees_after ts es ≡ ts ++ news ts es
  after_news ts [] = sym (append-nil ts)
  after_news ts (e ∷ es) = after_news (ts ++ (stands ts e ∷ [])) es ∙ append_assoc ts (stands ts e ∷ []) (news (ts ++ (stands ts e ∷ [])) es)

  after_append : (ts : List (Tree E)) (es fs : List (Entry E)) → trees_after ts (es ++ fs) ≡ trees_after (trees_after ts es) fs
  after_append ts [] fs = refl
  after_append ts (e ∷ es) fs = after_append (ts ++ (stands ts e ∷ [])) es fs

  pub trees-append : (es fs : List (Entry E)) → trees (es ++ fs) ≡ trees es ++ news (trees es) fs
  trees-append es fs = after_append [] es fs ∙ after_news (trees es) fs

  pub kept : (es es' : List (Entry E)) (S : Tree E → Type 0) → Within es es' S → (t : Tree E) → Among t (trees es) → Among t (trees es')
  kept es es' S W t h =
      subst (Among t) (sym (ap trees W.appended ∙ trees-append es W.new)) (among_left t (trees es) (news (trees es) W.new) h)

  -- what is added, as trees
  added : (es es' : List (Entry E)) (S : Tree E → Type 0) (W : Within es es' S) → Lacks es S (news (trees es) W.new)
  added es es' S W =
      let N = news (trees es) W.new in
      let e = ap trees W.appended ∙ trees-append es W.new in
      let d : Distinct (trees es ++ N) = subst Distinct e W.distinct in
      record {
        distinct = distinct_right (trees es) N d;
        wanted = λ t h. elim (W.only t (subst (Among t) (sym e) (among_right t (trees es) N h))) [ inl i ↦ absurd (distinct_apart (trees es) N d t i h) | inr s ↦ s ];
        absent = λ t h i. distinct_apart (trees es) N d t i h;
      }

  length-added : (es es' : List (Entry E)) (S : Tree E → Type 0) (W : Within es es' S) → length es' ≡ length es + length (news (trees es) W.new)
  length-added es es' S W = omega (arith, ap length W.appended, length-append es W.new, length-news (trees es) W.new)

  -- first one set, then another
  pub within_more : (es es' : List (Entry E)) (S T : Tree E → Type 0) → ((t : Tree E) → S t → T t) → Within es es' S → Within es es' T
  within_more es es' S T f W = record {
    new = W.new;
    appended = W.appended;
    distinct = W.distinct;
    only = λ t h. elim (W.only t h) [ inl i ↦ inl i | inr s ↦ inr (f t s) ];
  }

  pub grown_same : (es es' : List (Entry E)) (S T : Tree E → Type 0) → ((t : Tree E) → S t → T t) → ((t : Tree E) → T t → S t) → Grown es es' S → Grown es es' T
  grown_same es es' S T f g G = record { within = within_more es es' S T f G.within; all = λ t s. G.all t (g t s) }

  pub within_then : (es₀ es₁ es₂ : List (Entry E)) (S T : Tree E → Type 0) → Within es₀ es₁ S → Within es₁ es₂ T → Within es₀ es₂ (Either S T)
  within_then es₀ es₁ es₂ S T V W = record {
    new = V.new ++ W.new;
    appended = W.appended ∙ (ap (λ l. l ++ W.new) V.appended ∙ append_assoc es₀ V.new W.new);
    distinct = W.distinct;
    only = λ t h. elim (W.only t h) [ inl i ↦ elim (V.only t i) [ inl j ↦ inl j | inr s ↦ inr (inl s) ] | inr s ↦ inr (inr s) ];
  }

  pub grown_then : (es₀ es₁ es₂ : List (Entry E)) (S T : Tree E → Type 0) → Grown es₀ es₁ S → Grown es₁ es₂ T → Grown es₀ es₂ (Either S T)
  grown_then es₀ es₁ es₂ S T G H = record {
    within = within_then es₀ es₁ es₂ S T G.within H.within;
    all = λ t s. elim s [ inl a ↦ kept es₁ es₂ T H.within t (G.all t a) | inr b ↦ H.all t b ];
  }

  -- a refusal on the way is a refusal of the whole
  pub overfull_more : (es : List (Entry E)) (capacity : ℕ) (S T : Tree E → Type 0) → ((t : Tree E) → S t → T t) → Overfull es capacity S → Overfull es capacity T
  overfull_more es capacity S T f O = record {
    missing = O.missing;
    lacks = record { distinct = O.lacks.distinct; wanted = λ t h. f t (O.lacks.wanted t h); absent = O.lacks.absent };
    exceeds = O.exceeds;
  }

  pub overfull_then : (es₀ es₁ : List (Entry E)) (capacity : ℕ) (S T : Tree E → Type 0) → Within es₀ es₁ S → Overfull es₁ capacity T → Overfull es₀ capacity (Either S T)
  overfull_then es₀ es₁ capacity S T W O =
      let N = news (trees es₀) W.new in
      let ts = O.missing in
      let A = added es₀ es₁ S W in
      let e = ap trees W.appended ∙ trees-append es₀ W.new in
      record {
        missing = N ++ ts;
        lacks = record {
          distinct = distinct_append N ts A.distinct O.lacks.distinct (λ t i j. O.lacks.absent t j (subst (Among t) (sym e) (among_right t (trees es₀) N i)));
          wanted = λ t h. elim (among_either t N ts h) [ inl i ↦ inl (A.wanted t i) | inr j ↦ inr (O.lacks.wanted t j) ];
          absent = λ t h i. elim (among_either t N ts h) [ inl j ↦ A.absent t j i | inr j ↦ O.lacks.absent t j (kept es₀ es₁ S W t i) ];
        };
        exceeds = omega (arith, O.exceeds, length-added es₀ es₁ S W, length-append N ts);
      }

  -- how many there are afterwards
  at_most : (es es' : List (Entry E)) (S : Tree E → Type 0) → Grown es es' S → Distinct (trees es) → (ts : List (Tree E)) → Lacks es S ts → length es + length ts ≤ length es'
  at_most es es' S G d ts L =
      let l = no_more (trees es ++ ts) (trees es') (distinct_append (trees es) ts d L.distinct (λ t i j. L.absent t j i))
      (λ t h. elim (among_either t (trees es) ts h) [ inl i ↦ kept es es' S G.within t i | inr j ↦ G.all t (L.wanted t j) ]) in
      omega (arith, length-append (trees es) ts, length-trees es, length-trees es')

  before : (es es' : List (Entry E)) (S : Tree E → Type 0) → Within es es' S → Distinct (trees es)
  before es es' S W = distinct_left (trees es) (news (trees es) W.new) (subst Distinct (ap trees W.appended ∙ trees-append es W.new) W.distinct)

  pub grown_length : (es es' : List (Entry E)) (S : Tree E → Type 0) → Grown es es' S → (ts : List (Tree E)) → Lacks es S ts → ((t : Tree E) → S t → Among t (trees es) ⊎ Among t ts) → length es' ≡ length es + length ts
  grown_length es es' S G ts L h =
      let N = news (trees es) G.within.new in
      let A = added es es' S G.within in
      let l = at_most es es' S G (before es es' S G.within) ts L in
      let m = no_more N ts A.distinct (λ t i. elim (h t (A.wanted t i)) [ inl j ↦ absurd (A.absent t i j) | inr j ↦ j ]) in
      omega (arith, length-added es es' S G.within)

  pub grown_alike : (es es₁ es₂ : List (Entry E)) (S : Tree E → Type 0) → Grown es es₁ S → Grown es es₂ S → length es₁ ≡ length es₂
  grown_alike es es₁ es₂ S G H =
      let l = at_most es es₂ S H (before es es₂ S H.within) (news (trees es) G.within.new) (added es es₁ S G.within) in
      let m = at_most es es₁ S G (before es es₁ S G.within) (news (trees es) H.within.new) (added es es₂ S H.within) in
      omega (arith, length-added es es₁ S G.within, length-added es es₂ S H.within)

  -- grown within the capacity, or overfull: never both, and always one
  pub not_both : (es es' : List (Entry E)) (capacity : ℕ) (S : Tree E → Type 0) → Grown es es' S → length es' ≤ capacity → Overfull es capacity S → ⊥
  not_both es es' capacity S G l O = omega (arith, at_most es es' S G (before es es' S G.within) O.missing O.lacks, O.exceeds)

  pub too_many : (es es' : List (Entry E)) (capacity : ℕ) (S : Tree E → Type 0) → Within es es' S → capacity < length es' → Overfull es capacity S
  too_many es es' capacity S W l = record { missing = news (trees es) W.new; lacks = added es es' S W; exceeds = omega (arith, length-added es es' S W) }

  -- both at once, for what an operation says of itself
  pub then_done : (capacity : ℕ) (es₀ es₁ es₂ : List (Entry E)) (S T : Tree E → Type 0) (b : Bool) → Outcome capacity es₀ es₁ S true → Outcome capacity es₁ es₂ T b → Outcome capacity es₀ es₂ (Either S T) b
  then_done capacity es₀ es₁ es₂ S T true (G, l) (H, m) = (grown_then es₀ es₁ es₂ S T G H, m)
  then_done capacity es₀ es₁ es₂ S T false (G, l) (W, O) = (within_then es₀ es₁ es₂ S T G.within W, overfull_then es₀ es₁ capacity S T G.within O)

  pub stopped : (capacity : ℕ) (es₀ es₁ : List (Entry E)) (S T : Tree E → Type 0) → Outcome capacity es₀ es₁ S false → Outcome capacity es₀ es₁ (Either S T) false
  stopped capacity es₀ es₁ S T (W, O) = (within_more es₀ es₁ S (Either S T) (λ t s. inl s) W, overfull_more es₀ capacity S (Either S T) (λ t s. inl s) O)

  -- nothing is added where all is there
  pub grown_none : (es : List (Entry E)) (S : Tree E → Type 0) → Distinct (trees es) → ((t : Tree E) → S t → Among t (trees es)) → Grown es es S
  grown_none es S d h = record {
    within = record { new = []; appended = sym (append-nil es); distinct = d; only = λ t i. inl i };
    all = h;
  }

  -- one entry more
  pub grown_one : (es : List (Entry E)) (e : Entry E) → Distinct (trees es) → (Among (stands (trees es) e) (trees es) → ⊥) → Grown es (es ++ (e ∷ [])) (λ t. t ≡ stands (trees es) e)
  grown_one es e d h =
      let T = trees es in
      let s = stands T e in
      let q = trees-append es (e ∷ []) in
      record {
        within = record {
          new = e ∷ [];
          appended = refl;
          distinct = subst Distinct (sym q) (distinct_append T (s ∷ []) d (λ i. i, tt) (λ a i j. elim j [ inl z ↦ h (among_eq s a T (sym z) i) | inr z ↦ z ]));
          only = λ t i. elim (among_either t T (s ∷ []) (subst (Among t) q i)) [ inl j ↦ inl j | inr j ↦ elim j [ inl z ↦ inr z | inr z ↦ absurd z ] ];
        };
        all = λ t z. subst (Among t) (sym q) (among_right t T (s ∷ []) (inl z));
      }

  -- refused exactly when it has to be
  pub refused : (capacity : ℕ) (es es' : List (Entry E)) (S : Tree E → Type 0) (b : Bool) → Outcome capacity es es' S b → Overfull es capacity S → b ≡ false
  refused capacity es es' S true (G, l) O = absurd (not_both es es' capacity S G l O)
  refused capacity es es' S false o O = refl
