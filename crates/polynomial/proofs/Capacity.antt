-- A model of an operation under a capacity: it is refused exactly when it has to be.
use Rattle.std.proofs.Common.{◌≡◌, ℕ, suc, ◌<◌, ◌≤◌, Bool, true, false, List, [], ◌∷◌, ◌++◌, length, sym, refl, ap, ◌∙◌, subst, ap₂, inl, inr, append-nil, arith, length-append}
use Rattle.std.proofs.lemmas.Bool.{false≢true}
use native.Mathlib.Decide.{dec_lt}
use Rattle.polynomial.specs.Diagrams.{Inside}
use Rattle.polynomial.specs.Entries.{Entry, look, stands, trees}
use Rattle.polynomial.specs.Growth.{Either, Grown, Outcome}
use Rattle.polynomial.specs.Lists.{Among, Distinct}
use Rattle.polynomial.specs.Trees.{Tree, leaf, node}
use Rattle.polynomial.proofs.Pigeonhole.{among_eq}
use Rattle.polynomial.proofs.GrowthLaws.{news, trees-append, within_more, grown_same, overfull_more, then_done, grown_none, grown_one}
use Rattle.polynomial.proofs.GrowingTrees.{tree_dec, among_dec, place, look-append, look_last}

module _ {E : Type 0} (capacity : ℕ) where
  pub outcome_same : (es es' : List (Entry E)) (S T : Tree E → Type 0) → ((t : Tree E) → S t → T t) → ((t : Tree E) → T t → S t) → (b : Bool) → Outcome capacity es es' S b → Outcome capacity es es' T b
  outcome_same es es' S T f g true (G, l) = (grown_same es es' S T f g G, l)
  outcome_same es es' S T f g false (W, O) = (within_more es es' S T f W, overfull_more es capacity S T f O)

  module _ (x : ℕ) (p : E) (m : Tree E) (q : E) (n : Tree E) where
    abbrev Low : Tree E → Type 0
    Low s = Inside s m

    abbrev High : Tree E → Type 0
    High s = Inside s n

    abbrev Here : Tree E → Type 0
    Here s = Inside s (node x p m q n)

    pub stopped_low : (es₀ es₁ : List (Entry E)) → Outcome capacity es₀ es₁ Low false → Outcome capacity es₀ es₁ Here false
    stopped_low es₀ es₁ (W, O) = (within_more es₀ es₁ Low Here (λ s h. inr (inl h)) W, overfull_more es₀ capacity Low Here (λ s h. inr (inl h)) O)

    pub stopped_high : (es₀ es₁ es₂ : List (Entry E)) → Outcome capacity es₀ es₁ Low true → Outcome capacity es₁ es₂ High false → Outcome capacity es₀ es₂ Here false
    stopped_high es₀ es₁ es₂ A B =
        let (W, O) = then_done capacity es₀ es₁ es₂ Low High false A B in
        (within_more es₀ es₂ (Either Low High) Here (λ s h. inr h) W, overfull_more es₀ capacity (Either Low High) Here (λ s h. inr h) O)

    pub done_node : (es₀ es₁ es₂ es₃ : List (Entry E)) (b : Bool) → Outcome capacity es₀ es₁ Low true → Outcome capacity es₁ es₂ High true → Outcome capacity es₂ es₃ (λ s. s ≡ node x p m q n) b → Outcome capacity es₀ es₃ Here b
    done_node es₀ es₁ es₂ es₃ b A B C =
        outcome_same es₀ es₃ (Either (Either Low High) (λ s. s ≡ node x p m q n)) Here
        (λ s h. elim h [ inl i ↦ inr i | inr e ↦ inl e ]) (λ s h. elim h [ inl e ↦ inr e | inr i ↦ inl i ]) b
        (then_done capacity es₀ es₂ es₃ (Either Low High) (λ s. s ≡ node x p m q n) b (then_done capacity es₀ es₁ es₂ Low High true A B) C)

  -- one tree whose parts are there
  pub full_one : (es : List (Entry E)) (t : Tree E) → Distinct (trees es) → (Among t (trees es) → ⊥) → capacity ≤ length es → Outcome capacity es es (λ s. s ≡ t) false
  full_one es t d h l = (
    record { new = []; appended = sym (append-nil es); distinct = d; only = λ s i. inl i },
    record {
      missing = t ∷ [];
      lacks = record {
        distinct = (λ i. i, tt);
        wanted = λ s i. elim i [ inl e ↦ e | inr z ↦ absurd z ];
        absent = λ s i j. elim i [ inl e ↦ h (among_eq t s (trees es) (sym e) j) | inr z ↦ z ];
      };
      exceeds = omega arith;
    },
  )

  module _ (dec : (a b : E) → Dec (a ≡ b)) where
    pub record Done (es : List (Entry E)) (t : Tree E) : Type 0 where
      pub ok : Bool
      pub es' : List (Entry E)
      pub r : ℕ
      pub outcome : Outcome capacity es es' (λ s. Inside s t) ok
      pub there : ok ≡ true → r ≤ length (trees es')
      pub looks : ok ≡ true → look (trees es') r ≡ t

    module _ (x : ℕ) (p : E) (m : Tree E) (q : E) (n : Tree E) (es₀ es₁ es₂ : List (Entry E)) (lo hi : ℕ) (A : Outcome capacity es₀ es₁ (λ s. Inside s m) true) (B : Outcome capacity es₁ es₂ (λ s. Inside s n) true) (at_lo : look (trees es₂) lo ≡ m) (at_hi : look (trees es₂) hi ≡ n) where
      abbrev e : Entry E
      e = record { letter = x; p = p; lo = lo; q = q; hi = hi }

      is_node : stands (trees es₂) e ≡ node x p m q n
      is_node = ap₂ (λ a b. node x p a q b) at_lo at_hi

      last : Done es₀ (node x p m q n)
      last = go (among_dec (tree_dec dec) (node x p m q n) (trees es₂)) (dec_lt (length es₂) capacity)
        where
          d : Distinct (trees es₂)
          d = B.0.within.distinct

          go : Dec (Among (node x p m q n) (trees es₂)) → Dec (length es₂ < capacity) → Done es₀ (node x p m q n)
          go (yes h) c =
              let (i, l, z) = place (node x p m q n) (trees es₂) h in
              record {
                ok = true;
                es' = es₂;
                r = suc i;
                outcome = done_node x p m q n es₀ es₁ es₂ es₂ true A B (grown_none es₂ _ d (λ s w. among_eq s (node x p m q n) (trees es₂) w h), B.1);
                there = λ _. l;
                looks = λ _. z;
              }
          go (no h) (no c) = record {
            ok = false;
            es' = es₂;
            r = 0;
            outcome = done_node x p m q n es₀ es₁ es₂ es₂ false A B (full_one es₂ (node x p m q n) d h (omega arith));
            there = λ z. absurd (false≢true z);
            looks = λ z. absurd (false≢true z);
          }
          go (no h) (yes c) =
              let es₃ = es₂ ++ (e ∷ []) in
              let T = trees es₂ in
              let q3 : trees es₃ ≡ T ++ (stands T e ∷ []) = trees-append es₂ (e ∷ []) in
              record {
                ok = true;
                es' = es₃;
                r = suc (length T);
                outcome = done_node x p m q n es₀ es₁ es₂ es₃ true A B
                    (subst (λ s. Grown es₂ es₃ (λ u. u ≡ s)) is_node (grown_one es₂ e d (λ a. h (among_eq (node x p m q n) (stands T e) T (sym is_node) a))), omega (arith, length-append es₂ (e ∷ [])));
                there = λ _. omega (arith, ap length q3, length-append T (stands T e ∷ []));
                looks = λ _. ap (λ ts. look ts (suc (length T))) q3 ∙ (look_last T (stands T e) ∙ is_node);
              }

    both_parts : (x : ℕ) (p : E) (m : Tree E) (q : E) (n : Tree E) (es : List (Entry E)) → Done es m → ((es' : List (Entry E)) → Distinct (trees es') → length es' ≤ capacity → Done es' n) → Done es (node x p m q n)
    both_parts x p m q n es A rest = low A.ok refl
      where
        high : (O : Outcome capacity es A.es' (λ s. Inside s m) true) → A.ok ≡ true → (B : Done A.es' n) → (b : Bool) → B.ok ≡ b → Done es (node x p m q n)
        high O a B false e = record {
          ok = false;
          es' = B.es';
          r = 0;
          outcome = stopped_high x p m q n es A.es' B.es' O (subst (Outcome capacity A.es' B.es' (λ s. Inside s n)) e B.outcome);
          there = λ z. absurd (false≢true z);
          looks = λ z. absurd (false≢true z);
        }
        high O a B true e =
            let Q = subst (Outcome capacity A.es' B.es' (λ s. Inside s n)) e B.outcome in
            let T = trees A.es' in
            let N = news T Q.0.within.new in
            let more : trees B.es' ≡ T ++ N = ap trees Q.0.within.appended ∙ trees-append A.es' Q.0.within.new in
            last x p m q n es A.es' B.es' A.r B.r O Q (ap (λ ts. look ts A.r) more ∙ (look-append T N A.r (A.there a) ∙ A.looks a)) (B.looks e)

        low : (b : Bool) → A.ok ≡ b → Done es (node x p m q n)
        low false e = record {
          ok = false;
          es' = A.es';
          r = 0;
          outcome = stopped_low x p m q n es A.es' (subst (Outcome capacity es A.es' (λ s. Inside s m)) e A.outcome);
          there = λ z. absurd (false≢true z);
          looks = λ z. absurd (false≢true z);
        }
        low true e =
            let O = subst (Outcome capacity es A.es' (λ s. Inside s m)) e A.outcome in
            let B = rest A.es' O.0.within.distinct O.1 in
            high O e B B.ok refl

    pub insert : (t : Tree E) (es : List (Entry E)) → Distinct (trees es) → length es ≤ capacity → Done es t
    insert leaf es d l = record { ok = true; es' = es; r = 0; outcome = (grown_none es _ d (λ t s. absurd s), l); there = λ _. omega arith; looks = λ _. refl }
    insert (node x p m q n) es d l = both_parts x p m q n es (insert m es d l) (λ es' d' l'. insert n es' d' l')
