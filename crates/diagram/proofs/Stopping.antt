-- Sums that stop at the end c of their range.
use Rattle.std.proofs.Common.{◌≡◌, ℕ, ◌+◌, ◌≤◌, min, sym, ap, ap₂, ◌∙◌, arith}
use native.Mathlib.Nat.{min-eq_left, min-eq_right}
use native.Mathlib.Decide.{dec_lt}

module _ (c : ℕ) where
  pub stop_small : (n : ℕ) → n ≤ c → min n c ≡ n
  stop_small n h = min-eq_left h

  pub stop_large : (n : ℕ) → c ≤ n → min n c ≡ c
  stop_large n h = min-eq_right h

  -- stopping the terms first makes no difference
  pub stop_sum : (a b : ℕ) → min (min a c + min b c) c ≡ min (a + b) c
  stop_sum a b =
      elim (dec_lt a c) [
        | yes l ↦ elim (dec_lt b c) [
          | yes m ↦ ap₂ (λ y z. min (y + z) c) (stop_small a (omega arith)) (stop_small b (omega arith))
          | no m ↦ let e : min b c ≡ c = stop_large b (omega arith) in stop_large (min a c + min b c) (omega arith) ∙ sym (stop_large (a + b) (omega arith))
        ]
        | no l ↦ let e : min a c ≡ c = stop_large a (omega arith) in stop_large (min a c + min b c) (omega arith) ∙ sym (stop_large (a + b) (omega arith))
      ]

  pub stop_add : (a k : ℕ) → min (min a c + k) c ≡ min (a + k) c
  stop_add a k =
      elim (dec_lt a c) [
        | yes l ↦ ap (λ y. min (y + k) c) (stop_small a (omega arith))
        | no l ↦ let e : min a c ≡ c = stop_large a (omega arith) in stop_large (min a c + k) (omega arith) ∙ sym (stop_large (a + k) (omega arith))
      ]
