-- Arithmetic modulo suc p: the ring laws, and powers.
use Rattle.std.specs.Prelude.{◌≡◌, ℕ, zero, suc, ◌+◌, ◌-◌, ◌*◌, ◌/◌, ◌%◌, ◌^◌, ◌<◌, Bool, true, false, cond, T, ◌==◌, ◌≢◌, refl}
use Rattle.std.proofs.Common.{sym, ap, subst, ◌∙◌, arith, mod-eq_of_lt, mul_assoc, mul_comm, mul-add, add_assoc, add_comm, add-zero, mul-one, pow-suc, eq-eqb, eqb→eq}
use Rattle.std.proofs.lemmas.Bool.{false≢true}
use native.Mathlib.Fin
use Rattle.std.proofs.Math.Nat.{mod-add-mod, add-mod-mod, mod_self, zero-mod, pow-zero}
use Rattle.std.proofs.lemmas.Nat.{mul-mod_first, mul-mod_second, mul-pow, pow-add, pow-mod}
use Rattle.residue.specs.Residues.{modulo}
use Rattle.domain.specs.Ring.{Laws}

module _ (p : ℕ) where
  full : (a : ℕ) → a < suc p → a + (suc p - a) ≡ suc p
  full a h = omega arith

  pub modulo_laws : Laws (modulo p)
  modulo_laws = record {
    add_assoc = λ a b c. Fin.val_path (mod-add-mod (a.0 + b.0) (suc p) c.0 ∙ (ap (λ (z : ℕ). z % suc p) (add_assoc a.0 b.0 c.0) ∙ sym (add-mod-mod a.0 (b.0 + c.0) (suc p))));
    add_comm = λ a b. Fin.val_path (ap (λ (z : ℕ). z % suc p) (add_comm a.0 b.0));
    add-zero = λ a. Fin.val_path (add-mod-mod a.0 0 (suc p) ∙ (ap (λ (z : ℕ). z % suc p) (add-zero a.0) ∙ mod-eq_of_lt a.1));
    add_neg = λ a. Fin.val_path (add-mod-mod a.0 (suc p - a.0) (suc p) ∙ (ap (λ (z : ℕ). z % suc p) (full a.0 a.1) ∙ (mod_self (suc p) ∙ sym (zero-mod (suc p)))));
    mul_assoc = λ a b c. Fin.val_path (mul-mod_first (a.0 * b.0) c.0 (suc p) ∙ (ap (λ (z : ℕ). z % suc p) (mul_assoc a.0 b.0 c.0) ∙ sym (mul-mod_second a.0 (b.0 * c.0) (suc p))));
    mul_comm = λ a b. Fin.val_path (ap (λ (z : ℕ). z % suc p) (mul_comm a.0 b.0));
    mul-one = λ a. Fin.val_path (mul-mod_second a.0 1 (suc p) ∙ (ap (λ (z : ℕ). z % suc p) (mul-one a.0) ∙ mod-eq_of_lt a.1));
    mul-add = λ a b c. Fin.val_path (mul-mod_second a.0 (b.0 + c.0) (suc p) ∙ (ap (λ (z : ℕ). z % suc p) (mul-add a.0 b.0 c.0)
        ∙ sym (mod-add-mod (a.0 * b.0) (suc p) (a.0 * c.0 % suc p) ∙ add-mod-mod (a.0 * b.0) (a.0 * c.0) (suc p))));
  }

square_pow : (a n : ℕ) → (a * a) ^ n ≡ a ^ (n + n)
square_pow a n = mul-pow a a n ∙ sym (pow-add a n n)

-- a to the power n modulo suc p by squares, in at most `steps` of them
unfoldable pub squares : ℕ → ℕ → ℕ → ℕ → ℕ
squares p zero a n = 1
squares p (suc steps) a zero = 1
squares p (suc steps) a (suc n) = cond (suc n % 2 == 0) (squares p steps (a * a % suc p) (suc n / 2)) (squares p steps (a * a % suc p) (suc n / 2) * a % suc p)

module _ (p a n : ℕ) where
  -- a power by squares
  pub even_power : n % 2 ≡ 0 → (a * a % suc p) ^ (n / 2) % suc p ≡ a ^ n % suc p
  even_power h =
      let e : n / 2 + n / 2 ≡ n = omega arith in
      pow-mod (a * a) (n / 2) (suc p) ∙ ap (λ (z : ℕ). z % suc p) (square_pow a (n / 2) ∙ ap (λ (k : ℕ). a ^ k) e)

  pub odd_power : (n % 2 ≢ 0) → ((a * a % suc p) ^ (n / 2) % suc p) * a % suc p ≡ a ^ n % suc p
  odd_power h =
      let m = suc p in
      let k = n / 2 in
      let e : suc (k + k) ≡ n = omega arith in
      mul-mod_first ((a * a % m) ^ k) a m
      ∙ (sym (mul-mod_first ((a * a % m) ^ k) a m)
      ∙ (ap (λ (z : ℕ). z * a % m) (pow-mod (a * a) k m)
      ∙ (mul-mod_first ((a * a) ^ k) a m
      ∙ ap (λ (z : ℕ). z % m) (ap (λ (z : ℕ). z * a) (square_pow a k) ∙ (sym (pow-suc a (k + k)) ∙ ap (λ (z : ℕ). a ^ z) e)))))

pub squares-power : (p steps a n : ℕ) → 0 < p → n < 2 ^ steps → squares p steps a n ≡ a ^ n % suc p
unfolding squares
squares-power p zero a n h l =
    let e : n ≡ 0 = omega arith in
    sym (ap (λ (k : ℕ). a ^ k % suc p) e ∙ (ap (λ (z : ℕ). z % suc p) (pow-zero a) ∙ mod-eq_of_lt (omega arith)))
squares-power p (suc steps) a zero h l = sym (ap (λ (z : ℕ). z % suc p) (pow-zero a) ∙ mod-eq_of_lt (omega arith))
squares-power p (suc steps) a (suc n) h l =
    go (squares p steps (a * a % suc p) (suc n / 2)) (squares-power p steps (a * a % suc p) (suc n / 2) h (let e = pow-suc 2 steps in omega arith)) (suc n % 2 == 0) refl
  where
    go : (half : ℕ) → half ≡ (a * a % suc p) ^ (suc n / 2) % suc p → (t : Bool) → (suc n % 2 == 0) ≡ t → cond t half (half * a % suc p) ≡ a ^ suc n % suc p
    go half d true e = d ∙ even_power p a (suc n) (eqb→eq (suc n % 2) 0 (subst T (sym e) tt))
    go half d false e = ap (λ (z : ℕ). z * a % suc p) d ∙ odd_power p a (suc n) (λ z. false≢true (sym e ∙ eq-eqb (suc n % 2) 0 z))
