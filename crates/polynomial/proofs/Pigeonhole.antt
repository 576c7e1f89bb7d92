-- Members of a list that are told apart by what they are related to are no more than that.
use Rattle.std.proofs.Common.{◌≡◌, suc, ◌≤◌, ◌⊎◌, List, [], ◌∷◌, ◌++◌, length, sym, refl, ◌∙◌, subst, inl, inr, arith}
use Rattle.polynomial.specs.Lists.{Among, Distinct}

pub among_left : {A : Type 0} (a : A) (s t : List A) → Among a s → Among a (s ++ t)
among_left a [] t h = absurd h
among_left a (b ∷ s) t (inl e) = inl e
among_left a (b ∷ s) t (inr h) = inr (among_left a s t h)

pub among_right : {A : Type 0} (a : A) (s t : List A) → Among a t → Among a (s ++ t)
among_right a [] t h = h
among_right a (b ∷ s) t h = inr (among_right a s t h)

pub among_either : {A : Type 0} (a : A) (s t : List A) → Among a (s ++ t) → Among a s ⊎ Among a t
among_either a [] t h = inr h
among_either a (b ∷ s) t (inl e) = inl (inl e)
among_either a (b ∷ s) t (inr h) = elim (among_either a s t h) [ inl l ↦ inl (inr l) | inr r ↦ inr r ]

pub among_eq : {A : Type 0} (a b : A) (s : List A) → a ≡ b → Among b s → Among a s
among_eq a b s e h = subst (λ c. Among c s) (sym e) h

module _ {A B : Type 0} (R : A → B → Type 0) (same : (a b : A) (y : B) → R a y → R b y → a ≡ b) where
  -- without the one that is related to y
  record Without (y : B) (Q : A → Type 0) (xs : List A) : Type 0 where
    rest : List A
    distinct : Distinct rest
    of : (x : A) → Among x rest → Among x xs
    left : (x : A) → Among x rest → Q x
    one : length xs ≤ suc (length rest)

  without : (y : B) (Q : A → Type 0) (xs : List A) → Distinct xs → ((x : A) → Among x xs → R x y ⊎ Q x) → Without y Q xs
  without y Q [] d h = record { rest = []; distinct = tt; of = λ x a. a; left = λ x a. absurd a; one = omega arith }
  without y Q (x ∷ xs) d h = go (h x (inl refl)) (without y Q xs d.1 (λ z a. h z (inr a)))
    where
      other : R x y → (z : A) → Among z xs → R z y ⊎ Q z → Q z
      other r z a (inl s) = absurd (d.0 (among_eq x z xs (same x z y r s) a))
      other r z a (inr q) = q

      kept : Q x → (W : Without y Q xs) → (z : A) → Among z (x ∷ W.rest) → Q z
      kept q W z (inl e) = subst Q (sym e) q
      kept q W z (inr a) = W.left z a

      kept_of : (W : Without y Q xs) → (z : A) → Among z (x ∷ W.rest) → Among z (x ∷ xs)
      kept_of W z (inl e) = inl e
      kept_of W z (inr a) = inr (W.of z a)

      go : R x y ⊎ Q x → Without y Q xs → Without y Q (x ∷ xs)
      go (inl r) W = record { rest = xs; distinct = d.1; of = λ z a. inr a; left = λ z a. other r z a (h z (inr a)); one = omega arith }
      go (inr q) W = record {
        rest = x ∷ W.rest;
        distinct = (λ a. d.0 (W.of x a), W.distinct);
        of = kept_of W;
        left = kept q W;
        one = omega (arith, W.one);
      }

  pub fewer : (ys : List B) (xs : List A) → Distinct xs → ((x : A) → Among x xs → (y : B) × Among y ys × R x y) → length xs ≤ length ys
  fewer [] [] d h = omega arith
  fewer [] (x ∷ xs) d h = absurd (h x (inl refl)).1
  fewer (y ∷ ys) xs d h =
      let W = without y (λ x. (z : B) × Among z ys × R x z) xs d (λ x a. sort x (h x a)) in
      let l = fewer ys W.rest W.distinct W.left in
      omega (arith, W.one)
    where
      sort : (x : A) → (z : B) × Among z (y ∷ ys) × R x z → R x y ⊎ ((z : B) × Among z ys × R x z)
      sort x (z, inl e, r) = inl (subst (R x) e r)
      sort x (z, inr a, r) = inr (z, a, r)

pub no_more : {A : Type 0} (xs ys : List A) → Distinct xs → ((x : A) → Among x xs → Among x ys) → length xs ≤ length ys
no_more {A} xs ys d h = fewer (λ a b. a ≡ b) (λ a b y e f. e ∙ sym f) ys xs d (λ x a. (x, h x a, refl))

pub distinct_append : {A : Type 0} (s t : List A) → Distinct s → Distinct t → ((a : A) → Among a s → Among a t → ⊥) → Distinct (s ++ t)
distinct_append [] t d e h = e
distinct_append (a ∷ s) t d e h =
    (λ i. elim (among_either a s t i) [ inl j ↦ d.0 j | inr j ↦ h a (inl refl) j ], distinct_append s t d.1 e (λ b j. h b (inr j)))

pub distinct_left : {A : Type 0} (s t : List A) → Distinct (s ++ t) → Distinct s
distinct_left [] t d = tt
distinct_left (a ∷ s) t d = (λ i. d.0 (among_left a s t i), distinct_left s t d.1)

pub distinct_right : {A : Type 0} (s t : List A) → Distinct (s ++ t) → Distinct t
distinct_right [] t d = d
distinct_right (a ∷ s) t d = distinct_right s t d.1

pub distinct_apart : {A : Type 0} (s t : List A) → Distinct (s ++ t) → (a : A) → Among a s → Among a t → ⊥
distinct_apart [] t d a i j = i
distinct_apart (b ∷ s) t d a (inl e) j = d.0 (among_right b s t (among_eq b a t (sym e) j))
distinct_apart (b ∷ s) t d a (inr i) j = distinct_apart s t d.1 a i j
