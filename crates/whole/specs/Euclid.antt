-- Euclid's algorithm gives the greatest common divisor.
use Rattle.std.specs.Prelude.{◌≡◌, ℕ, zero, suc, ◌-◌, ◌*◌, ◌/◌, ◌%◌, ◌<◌, ◌≤◌, ◌≢◌, refl}
use Rattle.std.proofs.Common.{sym, ap, ◌∙◌, arith, mod-lt, mul_assoc, mul-zero, mul-pos}
use Rattle.std.proofs.Math.Nat.{mod_def, mul-sub, mul-div-mul_left, mul-lt-mul_of_pos_left, pos_of_dvd_of_pos, le_of_dvd}
use Rattle.std.specs.Int.{IsGcd}
use Rattle.std.proofs.lemmas.Nat.Gcd.{IsGcd-from_zero, IsGcd-from_mod}
use Rattle.whole.specs.Divisors.{euclid, gcd}

-- one step more or less makes no difference while the steps suffice
more : (m n a b : ℕ) → b < m → b < n → euclid m a b ≡ euclid n a b
more zero n a b h g = absurd (omega arith)
more (suc m) zero a b h g = absurd (omega arith)
more (suc m) (suc n) a zero h g = refl
more (suc m) (suc n) a (suc b) h g =
    let l : a % suc b < suc b = mod-lt a (omega arith) in
    more m n (suc b) (a % suc b) (omega arith) (omega arith)

pub gcd-next : (a b : ℕ) → (b ≢ 0) → gcd b (a % b) ≡ gcd a b
gcd-next a zero h = absurd (h refl)
gcd-next a (suc b) h =
    let l : a % suc b < suc b = mod-lt a (omega arith) in
    more (suc (a % suc b)) (suc b) (suc b) (a % suc b) (omega arith) l

pub greatest : (steps a b : ℕ) → b < steps → IsGcd a b (euclid steps a b)
greatest zero a b h = absurd (omega arith)
greatest (suc steps) a zero h = IsGcd-from_zero a 0 refl
greatest (suc steps) a (suc b) h =
    let l : a % suc b < suc b = mod-lt a (omega arith) in
    IsGcd-from_mod a (suc b) (euclid steps (suc b) (a % suc b)) (greatest steps (suc b) (a % suc b) (omega arith))

pub gcd_greatest : (a b : ℕ) → IsGcd a b (gcd a b)
gcd_greatest a b = greatest (suc b) a b (omega arith)

pub gcd-pos : (a b : ℕ) → 0 < b → 0 < gcd a b
gcd-pos a b h = pos_of_dvd_of_pos (gcd_greatest a b).1 h

-- a common multiplier comes out
step : (n a b : ℕ) → 0 < b → euclid (suc n) a b ≡ euclid n b (a % b)
step n a zero h = absurd (omega arith)
step n a (suc b) h = refl

mod_scale : (k a b : ℕ) → 0 < k → (k * a) % (k * b) ≡ k * (a % b)
mod_scale k a b h =
    mod_def (k * a) (k * b)
    ∙ (ap (λ (x : ℕ). k * a - k * b * x) (mul-div-mul_left a b h)
    ∙ (ap (λ (x : ℕ). k * a - x) (mul_assoc k b (a / b)) ∙ (sym (mul-sub k a (b * (a / b))) ∙ ap (λ (x : ℕ). k * x) (sym (mod_def a b)))))

scaled : (n n' k a b : ℕ) → 0 < k → b < n → k * b < n' → euclid n' (k * a) (k * b) ≡ k * euclid n a b
scaled zero n' k a b h l l' = absurd (omega arith)
scaled (suc n) zero k a b h l l' = absurd (omega arith)
scaled (suc n) (suc n') k a zero h l l' = rw (mul-zero k)
scaled (suc n) (suc n') k a (suc b) h l l' =
    let m : a % suc b < suc b = mod-lt a (omega arith) in
    let m' : k * (a % suc b) < k * suc b = mul-lt-mul_of_pos_left m h in
    step n' (k * a) (k * suc b) (mul-pos h (omega arith))
    ∙ (ap (euclid n' (k * suc b)) (mod_scale k a (suc b) h) ∙ scaled n n' k (suc b) (a % suc b) h (omega arith) (omega arith))

pub gcd-scaled : (k a b : ℕ) → 0 < k → gcd (k * a) (k * b) ≡ k * gcd a b
gcd-scaled k a b h = scaled (suc b) (suc (k * b)) k a b h (omega arith) (omega arith)

pub gcd_small : (a b : ℕ) → 0 < b → gcd a b ≤ b
gcd_small a b h = le_of_dvd h (gcd_greatest a b).1
