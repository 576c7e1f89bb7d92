-- Each tree has a diagram, and its entries are a rival: the least number is attained.
use Rattle.std.proofs.Common.{◌≡◌, ℕ, zero, suc, ◌<◌, ◌≤◌, Bool, true, false, List, [], ◌∷◌, ◌++◌, length, get_or, sym, refl, ap, ◌∙◌, subst, ap₂, inl, inr, true≢false, arith, length-append}
use native.Mathlib.Decide.{ℕ_discrete}
use lib.ListN.{get_or-append}
use Rattle.domain.specs.Model.{Model}
use Rattle.polynomial.proofs.Shapes.{Sits, ShapeAfter, Shape}
use Rattle.polynomial.specs.Diagrams.{Inside, Diagram}
use Rattle.polynomial.specs.Elements.{is_zero}
use Rattle.polynomial.specs.Entries.{Entry, look, stands, trees_after, trees}
use Rattle.polynomial.specs.Growth.{Either, Grown}
use Rattle.polynomial.specs.Lists.{Among, Distinct}
use Rattle.polynomial.specs.Trees.{Tree, leaf, node, After, From, Reduced}
use Rattle.polynomial.proofs.ElementFacts.{Facts}
use Rattle.polynomial.proofs.Rings.{cancel}
use Rattle.polynomial.proofs.Pigeonhole.{among_eq, no_more}
use Rattle.polynomial.proofs.Minimality.{length-trees}
use Rattle.polynomial.proofs.LetterRules.{Ordered, reduced_ordered}
use Rattle.polynomial.proofs.GrowthLaws.{news, trees-append, grown_same, grown_then, grown_none, grown_one}

pub equal_dec : {E : Type 0} (M : Model E) → Facts M → (a b : E) → Dec (a ≡ b)
equal_dec M S a b = go (is_zero M (M.ring.add (M.ring.neg b) a)) refl
  where
    go : (t : Bool) → is_zero M (M.ring.add (M.ring.neg b) a) ≡ t → Dec (a ≡ b)
    go true t = yes (cancel S.laws (M.ring.neg b) a b (cc (S.is_zero_only _ t, S.laws.add_comm (M.ring.neg b) b, S.laws.add_neg b)))
    go false t =
        no (λ e.
        let z : M.ring.add (M.ring.neg b) a ≡ M.ring.zero = cc (S.laws.add_comm (M.ring.neg b) b, S.laws.add_neg b) in
        true≢false (sym (ap (is_zero M) z ∙ S.zero_is) ∙ t))

module _ {E : Type 0} (dec : (a b : E) → Dec (a ≡ b)) where
  pub tree_dec : (t u : Tree E) → Dec (t ≡ u)
  tree_dec leaf leaf = yes refl
  tree_dec leaf (node x p m q n) = no (λ e. let z : ◌≡◌ {A = ℕ} 0 1 = cc in omega arith)
  tree_dec (node x p m q n) leaf = no (λ e. let z : ◌≡◌ {A = ℕ} 0 1 = cc in omega arith)
  tree_dec (node x p m q n) (node y p' m' q' n') = go (ℕ_discrete x y) (dec p p') (dec q q') (tree_dec m m') (tree_dec n n')
    where
      go : Dec (x ≡ y) → Dec (p ≡ p') → Dec (q ≡ q') → Dec (m ≡ m') → Dec (n ≡ n') → Dec (node x p m q n ≡ node y p' m' q' n')
      go (no h) b c d f = no (λ e. h (cc))
      go (yes a) (no h) c d f = no (λ e. h (cc))
      go (yes a) (yes b) (no h) d f = no (λ e. h (cc))
      go (yes a) (yes b) (yes c) (no h) f = no (λ e. h (cc))
      go (yes a) (yes b) (yes c) (yes d) (no h) = no (λ e. h (cc))
      go (yes a) (yes b) (yes c) (yes d) (yes f) = yes (cc)

pub among_dec : {A : Type 0} → ((a b : A) → Dec (a ≡ b)) → (a : A) (l : List A) → Dec (Among a l)
among_dec dec a [] = no (λ h. h)
among_dec dec a (b ∷ l) = go (dec a b) (among_dec dec a l)
  where
    go : Dec (a ≡ b) → Dec (Among a l) → Dec (Among a (b ∷ l))
    go (yes e) d = yes (inl e)
    go (no h) (yes i) = yes (inr i)
    go (no h) (no g) = no (λ s. elim s [ inl e ↦ h e | inr i ↦ g i ])

pub place : {E : Type 0} (t : Tree E) (ts : List (Tree E)) → Among t ts → (i : ℕ) × (i < length ts) × (get_or ts i leaf ≡ t)
place t [] h = absurd h
place t (u ∷ ts) (inl e) = (0, omega arith, sym e)
place t (u ∷ ts) (inr h) = let (i, l, e) = place t ts h in (suc i, omega arith, e)

pub look-append : {E : Type 0} (ts us : List (Tree E)) (i : ℕ) → i ≤ length ts → look (ts ++ us) i ≡ look ts i
look-append ts us zero h = refl
look-append ts us (suc i) h = get_or-append ts us leaf i h

pub look_last : {E : Type 0} (ts : List (Tree E)) (t : Tree E) → get_or (ts ++ (t ∷ [])) (length ts) leaf ≡ t
look_last [] t = refl
look_last (u ∷ ts) t = look_last ts t

pub diagram_length : {E : Type 0} (t : Tree E) (ts us : List (Tree E)) → Diagram t ts → Diagram t us → length ts ≡ length us
diagram_length t ts us D C =
    omega (arith, no_more ts us D.distinct (λ s a. C.all s (D.inside s a)), no_more us ts C.distinct (λ s a. D.all s (C.inside s a)))

-- the last step of what makes a node
pub grown_node : {E : Type 0} (es₀ es₁ es₂ es₃ : List (Entry E)) (x : ℕ) (p : E) (m : Tree E) (q : E) (n : Tree E) → Grown es₀ es₁ (λ s. Inside s m) → Grown es₁ es₂ (λ s. Inside s n) → Grown es₂ es₃ (λ s. s ≡ node x p m q n) → Grown es₀ es₃ (λ s. Inside s (node x p m q n))
grown_node es₀ es₁ es₂ es₃ x p m q n A B C =
    grown_same es₀ es₃ _ _ (λ s h. elim h [ inl i ↦ inr i | inr e ↦ inl e ]) (λ s h. elim h [ inl e ↦ inr e | inr i ↦ inl i ])
    (grown_then es₀ es₂ es₃ (Either (λ s. Inside s m) (λ s. Inside s n)) (λ s. s ≡ node x p m q n) (grown_then es₀ es₁ es₂ (λ s. Inside s m) (λ s. Inside s n) A B) C)

rival_more : {E : Type 0} (k : ℕ) (es : List (Entry E)) (e : Entry E) (ts : List (Tree E)) → ShapeAfter k ts es → Sits k (trees_after ts es) e → ShapeAfter k ts (es ++ (e ∷ []))
rival_more k [] e ts r s = (s, tt)
rival_more k (f ∷ es) e ts r s = (r.0, rival_more k es e (ts ++ (stands ts f ∷ [])) r.1 s)

module _ {E : Type 0} (dec : (a b : E) → Dec (a ≡ b)) (k : ℕ) where
  pub record Growing (es : List (Entry E)) (t : Tree E) : Type 0 where
    pub es' : List (Entry E)
    pub r : ℕ
    pub grown : Grown es es' (λ s. Inside s t)
    pub there : r ≤ length (trees es')
    pub looks : look (trees es') r ≡ t
    pub rival : Ordered k t → Shape k es → Shape k es'

  pub grow : (t : Tree E) (es : List (Entry E)) → Distinct (trees es) → Growing es t
  grow leaf es d = record { es' = es; r = 0; grown = grown_none es _ d (λ t s. absurd s); there = omega arith; looks = refl; rival = λ o v. v }
  grow (node x p m q n) es d =
      let A = grow m es d in
      let B = grow n A.es' A.grown.within.distinct in
      last A B
    where
      last : (A : Growing es m) → Growing A.es' n → Growing es (node x p m q n)
      last A B = go (among_dec (tree_dec dec) t T)
        where
          t : Tree E
          t = node x p m q n

          T : List (Tree E)
          T = trees B.es'

          e : Entry E
          e = record { letter = x; p = p; lo = A.r; q = q; hi = B.r }

          more : T ≡ trees A.es' ++ news (trees A.es') B.grown.within.new
          more = ap trees B.grown.within.appended ∙ trees-append A.es' B.grown.within.new

          low : look T A.r ≡ m
          low = ap (λ ts. look ts A.r) more ∙ (look-append (trees A.es') (news (trees A.es') B.grown.within.new) A.r A.there ∙ A.looks)

          low_there : A.r ≤ length T
          low_there = omega (arith, A.there, ap length more, length-append (trees A.es') (news (trees A.es') B.grown.within.new))

          is_t : stands T e ≡ t
          is_t = ap₂ (λ a b. node x p a q b) low B.looks

          go : Dec (Among t T) → Growing es t
          go (yes h) =
              let (i, l, z) = place t T h in
              record {
                es' = B.es';
                r = suc i;
                grown = grown_node es A.es' B.es' B.es' x p m q n A.grown B.grown (grown_none B.es' _ B.grown.within.distinct (λ s w. among_eq s t T w h));
                there = l;
                looks = z;
                rival = λ o v. B.rival o.4 (A.rival o.3 v);
              }
          go (no h) =
              let q3 = trees-append B.es' (e ∷ []) in
              let ln = length-append T (stands T e ∷ []) in
              record {
                es' = B.es' ++ (e ∷ []);
                r = suc (length T);
                grown = grown_node es A.es' B.es' (B.es' ++ (e ∷ [])) x p m q n A.grown B.grown
                    (subst (λ s. Grown B.es' (B.es' ++ (e ∷ [])) (λ u. u ≡ s)) is_t (grown_one B.es' e B.grown.within.distinct (λ a. h (among_eq t (stands T e) T (sym is_t) a))));
                there = omega (arith, ap length q3);
                looks = ap (λ ts. look ts (suc (length T))) q3 ∙ (look_last T (stands T e) ∙ is_t);
                rival = λ o v. rival_more k B.es' e [] (B.rival o.4 (A.rival o.3 v)) (record {
                  known = o.0;
                  lo_before = low_there;
                  hi_before = B.there;
                  after = subst (After x) (sym low) o.1;
                  from = subst (From x) (sym B.looks) o.2;
                });
              }

-- the entries of one tree alone
pub record Least {E : Type 0} (k : ℕ) (t : Tree E) : Type 0 where
  pub es : List (Entry E)
  pub r : ℕ
  pub rival : Shape k es
  pub known : r ≤ length (trees es)
  pub looks : look (trees es) r ≡ t
  pub diagram : Diagram t (trees es)

pub least : {E : Type 0} (M : Model E) (S : Facts M) (k : ℕ) (t : Tree E) → Reduced M k t → Least k t
least M S k t d =
    let G = grow (equal_dec M S) k t [] tt in
    record {
      es = G.es';
      r = G.r;
      rival = G.rival (reduced_ordered M k t d) tt;
      known = G.there;
      looks = G.looks;
      diagram = record {
        distinct = G.grown.within.distinct;
        inside = λ s a. elim (G.grown.within.only s a) [ inl h ↦ absurd h | inr i ↦ i ];
        all = G.grown.all;
      };
    }

-- a list that has as many as the tree needs
pub least_length : {E : Type 0} (k : ℕ) (t : Tree E) (L : Least k t) (ts : List (Tree E)) → Diagram t ts → length ts ≡ length L.es
least_length k t L ts D = diagram_length t ts (trees L.es) D L.diagram ∙ length-trees L.es
