-- Every field is a domain: the laws of a field give all laws of a domain.
use Rattle.std.specs.Prelude.{◌≡◌, ℕ, ◌≤◌, true, ◌≢◌, ◌⊎◌, ℤ, pos, negsuc, unsigned_abs, refl}
use Rattle.std.proofs.Common.{sym, ◌∙◌, inl, inr, arith}
use Rattle.std.proofs.Math.Path.{ap}
use Rattle.std.proofs.Math.IntN.{ℤ_discrete, pos-ne-negsuc}
use Rattle.domain.specs.declared.number.Number.{Number}
use Rattle.domain.specs.Fields.{Field, FieldLaws, domain_of}
use Rattle.domain.specs.Model.{Codes, Factors, Scales, Sound}
use Rattle.domain.specs.Numbers.{number}
use Rattle.domain.specs.Rings.{one-mul, mul-zero, mul_swap}

module _ {E : Type 0} (F : Field E) (S : FieldLaws F) where
  -- elements with the same code are the same, so being zero can be decided
  same : (x y : E) → F.code x ≡ F.code y → x ≡ y
  same x y e = cc ((S.has x).1, (S.has y).1, e)

  zero_or_not : (x : E) → (x ≡ F.ring.zero) ⊎ (x ≢ F.ring.zero)
  zero_or_not x =
      elim (ℤ_discrete (F.code x).int (pos 0)) [
        | yes e ↦ inl (same x F.ring.zero (ap number e ∙ sym S.code_zero))
        | no n ↦ inr (λ e. n (ap (λ (y : E). (F.code y).int) e ∙ ap (λ (a : Number). a.int) S.code_zero))
      ]

  -- the inverse of an element that is not zero
  inv : E → E
  inv x = F.value (F.inverse (F.code x))

  undone : (x : E) → x ≢ F.ring.zero → F.ring.mul x (inv x) ≡ F.ring.one
  unfolding inv
  undone x h =
      let i = (S.inverts (F.code x) (S.has x).0 (λ e. h (sym (S.has x).1 ∙ e))).1 in
      ap (λ (y : E). F.ring.mul y (inv x)) (sym (S.has x).1) ∙ i

  undo : (x y : E) → x ≢ F.ring.zero → F.ring.mul (inv x) (F.ring.mul x y) ≡ y
  undo x y h = cc (S.laws.mul_assoc (inv x) x y, S.laws.mul_comm (inv x) x, undone x h, one-mul S.laws y)

  no_divisors : (x y : E) → F.ring.mul x y ≡ F.ring.zero → (x ≡ F.ring.zero) ⊎ (y ≡ F.ring.zero)
  no_divisors x y e =
      elim (zero_or_not x) [ inl z ↦ inl z | inr n ↦ inr (cc (undo x y n, e, mul-zero S.laws (inv x))) ]

  -- y times (x divided by y) is x
  restored : (x y : E) → y ≢ F.ring.zero → F.ring.mul y (F.ring.mul x (inv y)) ≡ x
  restored x y h = cc (mul_swap S.laws y x (inv y), undone y h, S.laws.mul-one x)

  -- a common multiplier leaves the quotient
  reduced : (k x y : E) → k ≢ F.ring.zero → y ≢ F.ring.zero → F.ring.mul (F.ring.mul k x) (inv (F.ring.mul k y)) ≡ F.ring.mul x (inv y)
  reduced k x y n h =
      let ky = F.ring.mul k y in
      let p = F.ring.mul (F.ring.mul k x) (inv ky) in
      let q = F.ring.mul x (inv y) in
      let m : ky ≢ F.ring.zero = λ e. elim (no_divisors k y e) [ inl z ↦ n z | inr z ↦ h z ] in
      cc (undo ky p m, undo ky q m, restored (F.ring.mul k x) ky m, S.laws.mul_assoc k y q, restored x y h)

  codes : Codes (domain_of F)
  codes = record {
    least = omega arith;
    most = omega arith;
    narrow = λ a c. let p = S.plain a c in narrow_at a p.0 p.1 p.2;
    small = λ a c. omega arith;
    only = S.only;
    has = λ x h. S.has x;
    zero = coded_at F.ring.zero (pos 0) S.code_zero;
    one = coded_at F.ring.one (pos 1) S.code_one;
    negative = λ n c. let p = S.plain (number (negsuc n)) c in absurd (pos-ne-negsuc p.0 n (sym (ap (λ (a : Number). a.int) p.1)));
  }
    where
      narrow_at : (a : Number) (n : ℕ) → a ≡ number (pos n) → n ≤ 2147483647 → unsigned_abs a.int ≤ 2147483647
      narrow_at a n e h = let d = ap (λ (b : Number). unsigned_abs b.int) e in omega (arith, d)

      coded_at : (x : E) (z : ℤ) → F.code x ≡ number z → (F.coded (number z) ≡ true) × (F.value (number z) ≡ x)
      coded_at x z e = (cc ((S.has x).0, e), cc ((S.has x).1, e))

  -- the quotient of two codes, as an element
  quotient : (a b : Number) → F.coded b ≡ true → F.value ((domain_of F).factor a b).1 ≡ F.ring.mul (F.value a) (inv (F.value b))
  unfolding inv
  quotient a b c = cc ((S.has (F.ring.mul (F.value a) (F.value (F.inverse b)))).1, S.only b c)

  factors : (a b : Number) → F.coded a ≡ true → F.coded b ≡ true → F.value b ≢ F.ring.zero → Factors (domain_of F) a b
  factors a b ca cb h = record {
    g_coded = cb;
    p_coded = (S.has (F.ring.mul (F.value a) (F.value (F.inverse b)))).0;
    q_coded = codes.one.0;
    left = cc (quotient a b cb, restored (F.value a) (F.value b) h);
    right = cc (codes.one.1, S.laws.mul-one (F.value b));
    some = h;
  }

  scales : (k : E) (a b a' b' : Number) → F.coded a ≡ true → F.coded b ≡ true → F.value b ≢ F.ring.zero → k ≢ F.ring.zero
      → F.coded a' ≡ true → F.coded b' ≡ true → F.value a' ≡ F.ring.mul k (F.value a) → F.value b' ≡ F.ring.mul k (F.value b)
      → Scales (domain_of F) a b a' b' k
  unfolding inv
  scales k a b a' b' ca cb h n ca' cb' ea eb = record {
    first = eb;
    second = cc (reduced k (F.value a) (F.value b) n h, S.only b cb, S.only b' cb', ea, eb);
    third = refl;
  }

  pub field_sound : Sound (domain_of F)
  field_sound = record {
    laws = S.laws;
    integral = record { apart = S.apart; no_divisors = no_divisors };
    sizes = record { sum = λ x y. omega arith; product = λ x y. refl; kinds = inl (λ x. refl) };
    codes = codes;
    factors = factors;
    scales = scales;
  }
