-- The working polynomials of a product, taken apart by one letter.
use Rattle.std.proofs.Common.{◌≡◌, ℕ, ◌<◌, ◌≢◌, ◌⊎◌, sym, ap, ◌∙◌, subst, inl, inr, arith}
use native.Mathlib.Decide.{dec_lt}
use Rattle.domain.specs.Ring.{Ring}
use Rattle.polynomial.specs.Polynomials.{Polynomial, Poly, letter, down}
use Rattle.domain.specs.Model.{Model}
use Rattle.polynomial.proofs.ElementFacts.{Facts}
use Rattle.polynomial.specs.Needs.{Splits}
use Rattle.polynomial.specs.Working.{Constant, Leads, Trails, Working, low, high, times, whole, other}
use Rattle.polynomial.proofs.Rings.{cancel}
use Rattle.polynomial.proofs.SeriesRing.{poly_laws}
use Rattle.polynomial.proofs.Down.{down-zero, free_mul}
use Rattle.polynomial.proofs.Parts.{high_is, early}

module _ {E : Type 0} (M : Model E) (S : Facts M) (k : ℕ) where
  abbrev R : Ring E
  R = M.ring

  abbrev P : Ring (Polynomial E k)
  P = Poly M.ring k

  lead_has : (x : ℕ) (f a h g : Polynomial E k) → Leads R k x f a h g → down R k x f ≢ P.zero
  lead_has x f a h g L e = L.has (sym (high_is M S k x f a h L.splits) ∙ e)

  -- both never hold
  lead_or_trail : (x : ℕ) (f a h g : Polynomial E k) → Leads R k x f a h g → Trails R k f g → ⊥
  lead_or_trail x f a h g L T =
      elim (dec_lt T.x x) [
        | yes b ↦ T.has (L.later T.x b)
        | no b ↦ lead_has x f a h g L (T.later x (omega arith))
      ]

  same_letter : (x y : ℕ) (f a h b i g : Polynomial E k) → Leads R k x f a h g → Leads R k y f b i g → x ≡ y
  same_letter x y f a h b i g L N =
      elim (dec_lt x y) [
        | yes c ↦ absurd (lead_has x f a h g L (early M S k y f b i N.splits x c))
        | no c ↦ elim (dec_lt y x) [
          | yes d ↦ absurd (lead_has y f b i g N (early M S k x f a h L.splits y d))
          | no d ↦ omega arith
        ]
      ]

  same_high : (x : ℕ) (f a h b i : Polynomial E k) → Splits R k x f a h → Splits R k x f b i → h ≡ i
  same_high x f a h b i L N = sym (high_is M S k x f a h L) ∙ high_is M S k x f b i N

  same_low : (x : ℕ) (f a h b i : Polynomial E k) → Splits R k x f a h → Splits R k x f b i → a ≡ b
  same_low x f a h b i L N =
      cancel (poly_laws S.laws k) (P.mul (letter R k x) h) a b (sym L.means ∙ (N.means ∙ ap (λ z. P.add (P.mul (letter R k x) z) b) (sym (same_high x f a h b i L N))))

  -- the same letter and parts
  module _ (x y : ℕ) (f a h b i g : Polynomial E k) (L : Leads R k x f a h g) (N : Leads R k y f b i g) where
    xy : y ≡ x
    xy = sym (same_letter x y f a h b i g L N)

    N' : Splits R k x f b i
    N' = subst (λ z. Splits R k z f b i) xy N.splits

    ba : b ≡ a
    ba = same_low x f b i a h N' L.splits

    ih : i ≡ h
    ih = same_high x f b i a h N' L.splits

  -- the four kinds of working polynomials of f = a + x h and g
  abbrev pub Kinds : (x : ℕ) (f a h g r : Polynomial E k) → Type 0
  Kinds x f a h g r = Working R k r a g ⊎ (Working R k r h g ⊎ ((r ≡ P.mul (letter R k x) (P.mul h g)) ⊎ (r ≡ P.mul f g)))

  pub of_kinds : (x : ℕ) (f a h g r : Polynomial E k) → Leads R k x f a h g → Kinds x f a h g r → Working R k r f g
  of_kinds x f a h g r L (inl w) = low x f a h g L w
  of_kinds x f a h g r L (inr (inl w)) = high x f a h g L w
  of_kinds x f a h g r L (inr (inr (inl e))) = times x f a h g L e
  of_kinds x f a h g r L (inr (inr (inr e))) = whole x f a h g L e

  kinds_of : (r : Polynomial E k) {f g : Polynomial E k} → Working R k r f g → (x : ℕ) (a h : Polynomial E k) → Leads R k x f a h g → Kinds x f a h g r
  kinds_of r (low y f b i g N w) x a h L = inl (subst (λ z. Working R k r z g) (ba x y f a h b i g L N) w)
  kinds_of r (high y f b i g N w) x a h L = inr (inl (subst (λ z. Working R k r z g) (ih x y f a h b i g L N) w))
  kinds_of r (times y f b i g N e) x a h L =
      inr (inr (inl (e ∙ (ap (λ z. P.mul (letter R k y) (P.mul z g)) (ih x y f a h b i g L N) ∙ ap (λ z. P.mul (letter R k z) (P.mul h g)) (xy x y f a h b i g L N)))))
  kinds_of r (whole y f b i g N e) x a h L = inr (inr (inr e))
  kinds_of r (other f g T w) x a h L = absurd (lead_or_trail x f a h g L T)

  pub to_kinds : (x : ℕ) (f a h g r : Polynomial E k) → Leads R k x f a h g → Working R k r f g → Kinds x f a h g r
  to_kinds x f a h g r L w = kinds_of r w x a h L

  -- the operands the other way round
  pub turned : (r : Polynomial E k) {f g : Polynomial E k} → Working R k r f g → Trails R k f g → Working R k r g f
  turned r (low y f b i g N w) T = absurd (lead_or_trail y f b i g N T)
  turned r (high y f b i g N w) T = absurd (lead_or_trail y f b i g N T)
  turned r (times y f b i g N e) T = absurd (lead_or_trail y f b i g N T)
  turned r (whole y f b i g N e) T = absurd (lead_or_trail y f b i g N T)
  turned r (other f g N w) T = w

  -- a constant has none
  constant-first : (r : Polynomial E k) {f g : Polynomial E k} → Working R k r f g → Constant R k f → ⊥
  constant-first r (low y f b i g N w) z = lead_has y f b i g N (z y)
  constant-first r (high y f b i g N w) z = lead_has y f b i g N (z y)
  constant-first r (times y f b i g N e) z = lead_has y f b i g N (z y)
  constant-first r (whole y f b i g N e) z = lead_has y f b i g N (z y)
  constant-first r (other f g T w) z = T.varies z

  constant_second : (r : Polynomial E k) {f g : Polynomial E k} → Working R k r f g → Constant R k g → ⊥
  constant_second r (low y f b i g N w) z = N.varies z
  constant_second r (high y f b i g N w) z = N.varies z
  constant_second r (times y f b i g N e) z = N.varies z
  constant_second r (whole y f b i g N e) z = N.varies z
  constant_second r (other f g T w) z = T.has (z T.x)

  pub constant_none : (f g : Polynomial E k) → Constant R k f ⊎ Constant R k g → (r : Polynomial E k) → Working R k r f g → ⊥
  constant_none f g (inl z) r w = constant-first r w z
  constant_none f g (inr z) r w = constant_second r w z

  -- a letter times what has none before it
  pub times-splits : (x : ℕ) → x < k → (h : Polynomial E k) → ((y : ℕ) → y < x → down R k y h ≡ P.zero) → Splits R k x (P.mul (letter R k x) h) P.zero h
  times-splits x l h e = record {
    known = l;
    means = sym ((poly_laws S.laws k).add-zero (P.mul (letter R k x) h));
    low = λ y _. down-zero S.laws k y;
    high = e;
  }

  pub lead_times : (x : ℕ) (f a h g : Polynomial E k) → Leads R k x f a h g → Splits R k x (P.mul (letter R k x) (P.mul h g)) P.zero (P.mul h g)
  lead_times x f a h g L = times-splits x L.splits.known (P.mul h g) (λ y l. free_mul S.laws k y h g (L.splits.high y l) (L.later y l))
