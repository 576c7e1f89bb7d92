-- The integers are a ring without divisors of zero; sizes and signs of products.
use Rattle.std.specs.Prelude.{◌≡◌, ℕ, zero, suc, ◌+◌, ◌-◌, ◌<◌, ◌≤◌, Bool, true, false, cond, T, ◌≢◌, ◌⊎◌, ℤ, pos, negsuc, ◌+ℤ◌, ◌*ℤ◌, neg_ℤ, nat_lt, unsigned_abs, refl}
use Rattle.std.proofs.Common.{sym, ap, subst, ◌∙◌, inl, inr, arith, ltb→lt}
use Rattle.std.proofs.Math.Decide.{dec_lt}
use Rattle.std.proofs.Math.Nat.{one-le-mul}
use Rattle.std.proofs.Math.IntN.{one, sub_ℕ, suc_ℤ, pred_ℤ, ℤ_ind, +ℤ_assoc, +ℤ_comm, +ℤ_idl, +ℤ_idr, +ℤ_invr, *ℤ-one, *ℤ_comm, zero-*ℤ, *ℤ-zero, suc_ℤ-*ℤ, pred_ℤ-*ℤ, +ℤ_one, -ℤ_one, suc_ℤ-+ℤ, pred_ℤ-+ℤ}
use Rattle.std.proofs.lemmas.Int.{unsigned_abs-mul}
use Rattle.whole.specs.Integers.{integer_ring}
use Rattle.domain.specs.Ring.{Laws}
use Rattle.domain.specs.Rings.{cancel}

swap : (a b c : ℤ) → (a +ℤ b) +ℤ c ≡ (a +ℤ c) +ℤ b
swap a b c = cc (+ℤ_assoc a b c, +ℤ_comm b c, +ℤ_assoc a c b)

add-mul : (m k z : ℤ) → (m +ℤ k) *ℤ z ≡ m *ℤ z +ℤ k *ℤ z
add-mul m k z =
    let P : ℤ → Type 0 = λ m. (m +ℤ k) *ℤ z ≡ m *ℤ z +ℤ k *ℤ z in
    ℤ_ind P (cc (+ℤ_idl k, zero-*ℤ z, +ℤ_idl (k *ℤ z)))
    (λ n h. subst P (sym (+ℤ_one (pos n))) (up (pos n) h))
    (λ n h. subst P (sym (-ℤ_one (neg_ℤ (pos n)))) (down (neg_ℤ (pos n)) h))
    m
  where
    up : (m : ℤ) → (m +ℤ k) *ℤ z ≡ m *ℤ z +ℤ k *ℤ z → (suc_ℤ m +ℤ k) *ℤ z ≡ suc_ℤ m *ℤ z +ℤ k *ℤ z
    up m h = cc (suc_ℤ-+ℤ m k, suc_ℤ-*ℤ (m +ℤ k) z, suc_ℤ-*ℤ m z, swap (m *ℤ z) (k *ℤ z) z, h)

    down : (m : ℤ) → (m +ℤ k) *ℤ z ≡ m *ℤ z +ℤ k *ℤ z → (pred_ℤ m +ℤ k) *ℤ z ≡ pred_ℤ m *ℤ z +ℤ k *ℤ z
    down m h = cc (pred_ℤ-+ℤ m k, pred_ℤ-*ℤ (m +ℤ k) z, pred_ℤ-*ℤ m z, swap (m *ℤ z) (k *ℤ z) (neg_ℤ z), h)

pub neg-mul : (a b : ℤ) → neg_ℤ a *ℤ b ≡ neg_ℤ (a *ℤ b)
neg-mul a b = strip (a *ℤ b) (neg_ℤ a *ℤ b) (neg_ℤ (a *ℤ b)) (cc (add-mul a (neg_ℤ a) b, +ℤ_invr a, zero-*ℤ b, +ℤ_invr (a *ℤ b)))
  where
    strip : (x y z : ℤ) → x +ℤ y ≡ x +ℤ z → y ≡ z
    strip x y z e = cc (+ℤ_assoc (neg_ℤ x) x y, +ℤ_assoc (neg_ℤ x) x z, +ℤ_comm (neg_ℤ x) x, +ℤ_invr x, +ℤ_idl y, +ℤ_idl z, e)

pub mul-neg : (a b : ℤ) → a *ℤ neg_ℤ b ≡ neg_ℤ (a *ℤ b)
mul-neg a b = cc (*ℤ_comm a (neg_ℤ b), neg-mul b a, *ℤ_comm a b)

mul_assoc : (a b c : ℤ) → (a *ℤ b) *ℤ c ≡ a *ℤ (b *ℤ c)
mul_assoc a b c =
    let P : ℤ → Type 0 = λ a. (a *ℤ b) *ℤ c ≡ a *ℤ (b *ℤ c) in
    ℤ_ind P (cc (zero-*ℤ b, zero-*ℤ c, zero-*ℤ (b *ℤ c)))
    (λ n h. subst P (sym (+ℤ_one (pos n))) (cc (suc_ℤ-*ℤ (pos n) b, suc_ℤ-*ℤ (pos n) (b *ℤ c), add-mul (pos n *ℤ b) b c, h)))
    (λ n h. let m = neg_ℤ (pos n) in subst P (sym (-ℤ_one m)) (cc (pred_ℤ-*ℤ m b, pred_ℤ-*ℤ m (b *ℤ c), add-mul (m *ℤ b) (neg_ℤ b) c, neg-mul b c, h)))
    a

pub integer_laws : Laws integer_ring
unfolding one
integer_laws = record {
  add_assoc = +ℤ_assoc;
  add_comm = +ℤ_comm;
  add-zero = +ℤ_idr;
  add_neg = +ℤ_invr;
  mul_assoc = mul_assoc;
  mul_comm = *ℤ_comm;
  mul-one = *ℤ-one;
  mul-add = λ a b c. cc (*ℤ_comm a (b +ℤ c), add-mul b c a, *ℤ_comm a b, *ℤ_comm a c);
}

-- sizes
pub abs_neg : (z : ℤ) → unsigned_abs (neg_ℤ z) ≡ unsigned_abs z
abs_neg (pos zero) = refl
abs_neg (pos (suc n)) = refl
abs_neg (negsuc n) = refl

abs-sub : (a b : ℕ) → unsigned_abs (sub_ℕ a b) ≤ a + b
abs-sub a b = go (nat_lt a b) refl
  where
    go : (t : Bool) → nat_lt a b ≡ t → unsigned_abs (cond t (negsuc (b - suc a)) (pos (a - b))) ≤ a + b
    go true e = let h = ltb→lt a b (subst T (sym e) tt) in omega arith
    go false e = omega arith

pub abs-add : (a b : ℤ) → unsigned_abs (a +ℤ b) ≤ unsigned_abs a + unsigned_abs b
abs-add (pos a) (pos b) = omega arith
abs-add (pos a) (negsuc b) = abs-sub a (suc b)
abs-add (negsuc a) (pos b) = omega (arith, abs-sub b (suc a))
abs-add (negsuc a) (negsuc b) = omega arith

pub abs-zero : (a : ℤ) → unsigned_abs a ≡ 0 → a ≡ pos 0
abs-zero (pos n) e = ap pos e
abs-zero (negsuc n) e = absurd (omega arith)

pub abs-pos : (a : ℤ) → a ≢ pos 0 → 0 < unsigned_abs a
abs-pos a h = elim (dec_lt 0 (unsigned_abs a)) [ yes l ↦ l | no l ↦ absurd (h (abs-zero a (omega arith))) ]

pub no_divisors : (a b : ℤ) → a *ℤ b ≡ pos 0 → (a ≡ pos 0) ⊎ (b ≡ pos 0)
no_divisors a b e =
    elim (dec_lt 0 (unsigned_abs a)) [
      | yes l ↦ elim (dec_lt 0 (unsigned_abs b)) [
        | yes k ↦ let p = one-le-mul l k in let q = sym (unsigned_abs-mul a b) ∙ ap unsigned_abs e in absurd (omega arith)
        | no k ↦ inr (abs-zero b (omega arith))
      ]
      | no l ↦ inl (abs-zero a (omega arith))
    ]

pub cancel_mul : (c x y : ℤ) → c ≢ pos 0 → c *ℤ x ≡ c *ℤ y → x ≡ y
cancel_mul c x y h e =
    let z = no_divisors c (x +ℤ neg_ℤ y) (cc (integer_laws.mul-add c x (neg_ℤ y), integer_laws.mul-add c y (neg_ℤ y), +ℤ_invr y, *ℤ-zero c, e)) in
    elim z [
      | inl k ↦ absurd (h k)
      | inr k ↦ cancel integer_laws (neg_ℤ y) x y (cc (k, +ℤ_comm x (neg_ℤ y), +ℤ_invr y, +ℤ_comm y (neg_ℤ y)))
    ]
