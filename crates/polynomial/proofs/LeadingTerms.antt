-- The leading coefficient of a total power can be found, and those of two factors give a product one.
use Rattle.std.proofs.Common.{◌≡◌, ℕ, zero, suc, ◌+◌, ◌<◌, ◌≤◌, ◌≢◌, ◌⊎◌, List, [], ◌∷◌, length, sym, refl, ◌∙◌, subst, inl, inr, arith}
use Rattle.std.proofs.lemmas.Bool.{cases_lt, cases_order}
use Rattle.domain.specs.Ring.{Ring, Laws, Integral}
use Rattle.polynomial.specs.Polynomials.{Polynomial, product, Poly}
use Rattle.polynomial.specs.Coefficients.{coefficient, total_power}
use Rattle.polynomial.proofs.Rings.{zero-add, mul-zero, zero-mul}
use Rattle.polynomial.proofs.CoefficientLaws.{coefficient-add}

rowsum_none : (u : List ℕ) → length u ≤ 0 → total_power u ≡ 0
rowsum_none [] l = refl
rowsum_none (i ∷ u) l = absurd (omega arith)

module _ {E : Type 0} (R : Ring E) where
  -- f times a power s of other letters has no coefficient of total power n or above
  abbrev pub Below : (k : ℕ) → Polynomial E k → ℕ → ℕ → Type 0
  Below k f n s = (u : List ℕ) → length u ≤ k → n ≤ s + total_power u → coefficient R k f u ≡ R.zero

  -- f times a power s of other letters has a coefficient of total power d; the exponents are the largest, the first letter's first
  abbrev pub Lead : (k : ℕ) → Polynomial E k → ℕ → ℕ → Type 0
  Lead zero f d s = (s ≡ d) × (f ≢ R.zero)
  Lead (suc k) f d s = (i : ℕ) × Lead k (f i) d (s + i) × ((j : ℕ) → i < j → Below k (f j) d (s + j))

  -- the parts of f at the powers of the first letter
  below_at : (k : ℕ) (f : Polynomial E (suc k)) (n s : ℕ) → Below (suc k) f n s → (i : ℕ) → Below k (f i) n (s + i)
  below_at k f n s b i u l h = b (i ∷ u) (omega arith) (omega arith)

  below_all : (k : ℕ) (f : Polynomial E (suc k)) (n s : ℕ) → ((i : ℕ) → Below k (f i) n (s + i)) → Below (suc k) f n s
  below_all k f n s b [] l h = b 0 [] (omega arith) (omega arith)
  below_all k f n s b (i ∷ u) l h = b i u (omega arith) (omega arith)

  -- the first letter's largest power is sought from n down
  lead_from : (k : ℕ) (f : Polynomial E (suc k)) (d s : ℕ) → ((i : ℕ) → Lead k (f i) d (s + i) ⊎ Below k (f i) d (s + i)) → (n : ℕ)
      → ((j : ℕ) → n ≤ j → Below k (f j) d (s + j)) → Lead (suc k) f d s ⊎ Below (suc k) f d s
  lead_from k f d s find zero h = inr (below_all k f d s (λ i. h i (omega arith)))
  lead_from k f d s find (suc n) h =
      elim (find n) [
        | inl p ↦ inl (n, p, h)
        | inr b ↦ lead_from k f d s find n (λ j l. elim (cases_lt n j) [ inl m ↦ h j m | inr m ↦ subst (λ (i : ℕ). Below k (f i) d (s + i)) (omega arith) b ])
      ]

  -- if no total power is above d then d has a leading coefficient, or no coefficient
  pub lead_or_below : ((x : E) → (x ≡ R.zero) ⊎ (x ≢ R.zero)) → (k : ℕ) (f : Polynomial E k) (d s : ℕ) → Below k f (suc d) s → Lead k f d s ⊎ Below k f d s
  lead_or_below decide zero f d s b =
      elim (cases_order s d) [
        | inl e ↦ elim (decide f) [ inl z ↦ inr (λ u l h. z) | inr z ↦ inl (e, z) ]
        | inr (inl m) ↦ inr (λ u l h. absurd (omega (arith, rowsum_none u l)))
        | inr (inr m) ↦ inr (λ u l h. b u l (omega arith))
      ]
  lead_or_below decide (suc k) f d s b =
      lead_from k f d s (λ i. lead_or_below decide k (f i) d (s + i) (below_at k f (suc d) s b i)) (suc d) (λ j h u l m. b (j ∷ u) (omega arith) (omega arith))

module _ {E : Type 0} {R : Ring E} (L : Laws R) where
  both_zero : (x y : E) → x ≡ R.zero → y ≡ R.zero → R.add x y ≡ R.zero
  both_zero x y p q = cc (L.add-zero R.zero)

  -- if every product of two parts whose powers add up to n is zero at u, so is the product's part at n
  product_none : (k : ℕ) (f g : Polynomial E (suc k)) (u : List ℕ) (n : ℕ) → ((a b : ℕ) → a + b ≡ n → coefficient R k ((Poly R k).mul (f a) (g b)) u ≡ R.zero)
      → coefficient R k (product (Poly R k) f g n) u ≡ R.zero
  product_none k f g u zero h = h 0 0 refl
  product_none k f g u (suc n) h =
      coefficient-add R k ((Poly R k).mul (f 0) (g (suc n))) (product (Poly R k) (λ i. f (suc i)) g n) u
      ∙ both_zero _ _ (h 0 (suc n) (omega arith)) (product_none k (λ i. f (suc i)) g u n (λ a b e. h (suc a) b (omega arith)))

  -- if every such product but that of the parts at i and j is zero at u, the product's part there is that one
  product-single : (k : ℕ) (f g : Polynomial E (suc k)) (u : List ℕ) (i j n : ℕ) → i + j ≡ n
      → ((a b : ℕ) → a + b ≡ n → a ≢ i → coefficient R k ((Poly R k).mul (f a) (g b)) u ≡ R.zero)
      → coefficient R k (product (Poly R k) f g n) u ≡ coefficient R k ((Poly R k).mul (f i) (g j)) u
  product-single k f g u zero j zero e h = let z : j ≡ 0 = omega arith in cc
  product-single k f g u zero j (suc n) e h =
      let z : j ≡ suc n = omega arith in
      coefficient-add R k ((Poly R k).mul (f 0) (g (suc n))) (product (Poly R k) (λ a. f (suc a)) g n) u
      ∙ cc (product_none k (λ a. f (suc a)) g u n (λ a b v. h (suc a) b (omega arith) (λ w. omega arith)), L.add-zero (coefficient R k ((Poly R k).mul (f 0) (g j)) u))
  product-single k f g u (suc i) j zero e h = absurd (omega arith)
  product-single k f g u (suc i) j (suc n) e h =
      coefficient-add R k ((Poly R k).mul (f 0) (g (suc n))) (product (Poly R k) (λ a. f (suc a)) g n) u
      ∙ cc (
        h 0 (suc n) (omega arith) (λ z. omega arith),
        product-single k (λ a. f (suc a)) g u i j n (omega arith) (λ a b z w. h (suc a) b (omega arith) (λ v. w (omega arith))),
        zero-add L (coefficient R k ((Poly R k).mul (f (suc i)) (g j)) u),
      )

  -- the product has no coefficient of total power m + n - 1 or above
  pub product-below : (k : ℕ) (f g : Polynomial E k) (m n s t : ℕ) → Below R k f m s → Below R k g n t
      → (u : List ℕ) → length u ≤ k → m + n ≤ suc (s + t + total_power u) → coefficient R k ((Poly R k).mul f g) u ≡ R.zero
  product-below zero f g m n s t p q [] l h =
      elim (cases_lt s m) [
        | inl o ↦ cc (mul-zero L f, q [] l (omega arith))
        | inr o ↦ cc (zero-mul L g, p [] l (omega arith))
      ]
  product-below zero f g m n s t p q (i ∷ u) l h = absurd (omega arith)
  product-below (suc k) f g m n s t p q [] l h =
      product-below k (f 0) (g 0) m n (s + 0) (t + 0) (below_at R k f m s p 0) (below_at R k g n t q 0) [] (omega arith) (omega arith)
  product-below (suc k) f g m n s t p q (i ∷ u) l h =
      product_none k f g u i
      (λ a b e. product-below k (f a) (g b) m n (s + a) (t + b) (below_at R k f m s p a) (below_at R k g n t q b) u (omega arith) (omega arith))

  -- factors with leading coefficients have a product with a coefficient at the sum of the total powers
  pub product_leads : Integral R → (k : ℕ) (f g : Polynomial E k) (d e s t : ℕ) → Below R k f (suc d) s → Below R k g (suc e) t → Lead R k f d s → Lead R k g e t
      → (u : List ℕ) × (length u ≤ k) × (s + t + total_power u ≡ d + e) × (coefficient R k ((Poly R k).mul f g) u ≢ R.zero)
  product_leads I zero f g d e s t p q x y =
      ([], omega arith, omega (arith, x.0, y.0), λ z. elim (I.no_divisors f g z) [ inl a ↦ x.1 a | inr a ↦ y.1 a ])
  product_leads I (suc k) f g d e s t p q x y =
      let i = x.0 in
      let j = y.0 in
      let r = product_leads I k (f i) (g j) d e (s + i) (t + j) (below_at R k f (suc d) s p i) (below_at R k g (suc e) t q j) x.1 y.1 in
      let rest : (a b : ℕ) → a + b ≡ i + j → a ≢ i → coefficient R k ((Poly R k).mul (f a) (g b)) r.0 ≡ R.zero =
      λ a b v w. elim (cases_lt i a) [
        | inl h ↦ product-below k (f a) (g b) d (suc e) (s + a) (t + b) (x.2 a h) (below_at R k g (suc e) t q b) r.0 r.1 (omega (arith, r.2))
        | inr h ↦ product-below k (f a) (g b) (suc d) e (s + a) (t + b) (below_at R k f (suc d) s p a) (y.2 b (omega (arith, w))) r.0 r.1 (omega (arith, r.2))
      ] in
      ((i + j) ∷ r.0, omega (arith, r.1), omega (arith, r.2), λ z. r.3 (sym (product-single k f g r.0 i j (i + j) refl rest) ∙ z))
