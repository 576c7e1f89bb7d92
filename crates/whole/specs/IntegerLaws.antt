-- The integers keep the laws of a domain.
use Rattle.std.specs.Prelude.{◌≡◌, ℕ, zero, suc, ◌*◌, ◌/◌, ◌<◌, ◌≤◌, Bool, true, false, ◌≢◌, ℤ, pos, negsuc, ◌*ℤ◌, neg_ℤ, int_div, unsigned_abs, refl}
use Rattle.std.proofs.Common.{sym, ap, ap₂, subst, ◌∙◌, inl, inr, arith, mul-pos, mul-le-mul_right, leb-true}
use Rattle.std.specs.Int.{◌∣◌}
use Rattle.std.proofs.Math.Nat.{mul-div_cancel'}
use Rattle.std.proofs.Math.IntN.{neg_ℤ-neg_ℤ}
use Rattle.std.proofs.lemmas.Bool.{le-leb}
use Rattle.std.proofs.lemmas.Int.{unsigned_abs-mul}
use Rattle.domain.specs.declared.number.Number.{Number}
use Rattle.whole.specs.Divisors.{gcd}
use Rattle.whole.specs.Integers.{integers, signed, negative, common}
use Rattle.domain.specs.Model.{Codes, Factors, Scales, Sound}
use Rattle.domain.specs.Numbers.{number}
use Rattle.whole.specs.Euclid.{gcd_greatest, gcd-pos, gcd_small, gcd-scaled}
use Rattle.whole.specs.IntegerRing.{integer_laws, mul-neg, abs_neg, abs-add, abs-zero, abs-pos, no_divisors, cancel_mul}

signed-abs : (s : Bool) (n : ℕ) → unsigned_abs (signed s n) ≡ n
signed-abs true n = abs_neg (pos n)
signed-abs false n = refl

-- a divisor times the quotient
pub exact : (g z : ℤ) → unsigned_abs g ∣ unsigned_abs z → g *ℤ int_div z g ≡ z
exact (pos m) (pos n) d = ap pos (mul-div_cancel' m d)
exact (pos m) (negsuc n) d = mul-neg (pos m) (pos (suc n / m)) ∙ ap (λ (x : ℕ). neg_ℤ (pos x)) (mul-div_cancel' m d)
exact (negsuc m) (pos n) d =
    mul-neg (negsuc m) (pos (n / suc m)) ∙ (neg_ℤ-neg_ℤ (pos (suc m * (n / suc m))) ∙ ap pos (mul-div_cancel' (suc m) d))
exact (negsuc m) (negsuc n) d = ap (λ (x : ℕ). neg_ℤ (pos x)) (mul-div_cancel' (suc m) d)

module _ (a b : ℤ) where
  common-abs : unsigned_abs (common a b) ≡ gcd (unsigned_abs a) (unsigned_abs b)
  common-abs = signed-abs (negative b) (gcd (unsigned_abs a) (unsigned_abs b))

  exact_left : common a b *ℤ int_div a (common a b) ≡ a
  exact_left = let P : ℕ → Type 0 = λ g. g ∣ unsigned_abs a in exact (common a b) a (subst P (sym common-abs) (gcd_greatest (unsigned_abs a) (unsigned_abs b)).0)

  exact_right : common a b *ℤ int_div b (common a b) ≡ b
  exact_right = let P : ℕ → Type 0 = λ g. g ∣ unsigned_abs b in exact (common a b) b (subst P (sym common-abs) (gcd_greatest (unsigned_abs a) (unsigned_abs b)).1)

  pub common-pos : 0 < unsigned_abs b → 0 < unsigned_abs (common a b)
  common-pos h = let p = gcd-pos (unsigned_abs a) (unsigned_abs b) h in omega (arith, common-abs, p)

  common_some : b ≢ pos 0 → common a b ≢ pos 0
  common_some h e = let p = common-pos (abs-pos b h) in let z = ap unsigned_abs e in omega arith

-- a common multiplier comes out with its sign
negative-neg : (n : ℕ) → 0 < n → negative (neg_ℤ (pos n)) ≡ true
negative-neg zero h = absurd (omega arith)
negative-neg (suc n) h = refl

signed_mul : (k b : ℤ) (n : ℕ) → k ≢ pos 0 → b ≢ pos 0 → signed (negative (k *ℤ b)) (unsigned_abs k * n) ≡ k *ℤ signed (negative b) n
signed_mul (pos k) (pos b) n h g = refl
signed_mul (pos k) (negsuc b) n h g =
    ap (λ (s : Bool). signed s (k * n)) (negative-neg (k * suc b) (mul-pos (abs-pos (pos k) h) (omega arith))) ∙ sym (mul-neg (pos k) (pos n))
signed_mul (negsuc k) (pos b) n h g =
    ap (λ (s : Bool). signed s (suc k * n)) (negative-neg (suc k * b) (mul-pos (omega arith) (abs-pos (pos b) g)))
signed_mul (negsuc k) (negsuc b) n h g = sym (mul-neg (negsuc k) (pos n) ∙ neg_ℤ-neg_ℤ (pos (suc k * n)))

module _ (k a b : ℤ) (h : b ≢ pos 0) (n : k ≢ pos 0) where
  common-scaled : common (k *ℤ a) (k *ℤ b) ≡ k *ℤ common a b
  common-scaled =
      ap (signed (negative (k *ℤ b))) (ap₂ gcd (unsigned_abs-mul k a) (unsigned_abs-mul k b) ∙ gcd-scaled (unsigned_abs k) (unsigned_abs a) (unsigned_abs b) (abs-pos k n))
      ∙ signed_mul k b (gcd (unsigned_abs a) (unsigned_abs b)) n h

  -- a quotient by what both have in common stays
  quotient_scaled : (z : ℤ) → common a b *ℤ int_div z (common a b) ≡ z → common (k *ℤ a) (k *ℤ b) *ℤ int_div (k *ℤ z) (common (k *ℤ a) (k *ℤ b)) ≡ k *ℤ z
      → int_div (k *ℤ z) (common (k *ℤ a) (k *ℤ b)) ≡ int_div z (common a b)
  quotient_scaled z e e' =
      let g = common a b in
      let g' = common (k *ℤ a) (k *ℤ b) in
      let some : g' ≢ pos 0 = λ i. elim (no_divisors k g (sym common-scaled ∙ i)) [ inl j ↦ n j | inr j ↦ common_some a b h j ] in
      cancel_mul g' (int_div (k *ℤ z) g') (int_div z g) some (cc (e, e', common-scaled, integer_laws.mul_assoc k g (int_div z g)))

codes : Codes integers
codes = record {
  least = omega arith;
  most = omega arith;
  narrow = λ a c. leb-true (unsigned_abs a.int) 2147483647 c;
  small = λ a c. leb-true (unsigned_abs a.int) 2147483647 c;
  only = λ a c. refl;
  has = λ z h. (le-leb (unsigned_abs z) 2147483647 h, refl);
  zero = (refl, refl);
  one = (refl, refl);
  negative = λ n c. (c, refl);
}

-- a factor of a number that has a code has one
coded_factor : (g p z : ℤ) → g *ℤ p ≡ z → 0 < unsigned_abs g → unsigned_abs z ≤ 2147483647 → integers.coded (number p) ≡ true
coded_factor g p z e h l =
    let m = sym (unsigned_abs-mul g p) ∙ ap unsigned_abs e in
    let n : 1 * unsigned_abs p ≤ unsigned_abs g * unsigned_abs p = mul-le-mul_right (unsigned_abs p) h in
    le-leb (unsigned_abs p) 2147483647 (omega (arith, m, n))

module _ (a b : Number) (ca : integers.coded a ≡ true) (cb : integers.coded b ≡ true) (h : b.int ≢ pos 0) where
  factors : Factors integers a b
  factors =
      let la = leb-true (unsigned_abs a.int) 2147483647 ca in
      let lb = leb-true (unsigned_abs b.int) 2147483647 cb in
      let g = common a.int b.int in
      let some = common-pos a.int b.int (abs-pos b.int h) in
      let few = gcd_small (unsigned_abs a.int) (unsigned_abs b.int) (abs-pos b.int h) in
      record {
        g_coded = le-leb (unsigned_abs g) 2147483647 (omega (arith, few, lb, common-abs a.int b.int));
        p_coded = coded_factor g (int_div a.int g) a.int (exact_left a.int b.int) some la;
        q_coded = coded_factor g (int_div b.int g) b.int (exact_right a.int b.int) some lb;
        left = sym (exact_left a.int b.int);
        right = sym (exact_right a.int b.int);
        some = common_some a.int b.int h;
      }

scales : (k : ℤ) (a b a' b' : Number) → b.int ≢ pos 0 → k ≢ pos 0 → a'.int ≡ k *ℤ a.int → b'.int ≡ k *ℤ b.int → Scales integers a b a' b' k
scales k a b a' b' h n ea eb =
    let e = ap₂ common ea eb in
    let x = a.int in
    let y = b.int in
    record {
      first = e ∙ common-scaled k x y h n;
      second = ap number (ap₂ int_div ea e ∙ quotient_scaled k x y h n x (exact_left x y) (exact_left (k *ℤ x) (k *ℤ y)));
      third = ap number (ap₂ int_div eb e ∙ quotient_scaled k x y h n y (exact_right x y) (exact_right (k *ℤ x) (k *ℤ y)));
    }

pub integers_sound : Sound integers
integers_sound = record {
  laws = integer_laws;
  integral = record { apart = λ e. let z : ◌≡◌ {A = ℕ} 0 1 = ap unsigned_abs e in omega arith; no_divisors = no_divisors };
  sizes = record { sum = abs-add; product = unsigned_abs-mul; kinds = inr (λ a. (abs-zero a, λ e. ap unsigned_abs e)) };
  codes = codes;
  factors = factors;
  scales = λ k a b a' b' ca cb h n ca' cb' ea eb. scales k a b a' b' h n ea eb;
}
