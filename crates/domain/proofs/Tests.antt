-- Tests that are computed at every number below a bound, one after the other.
use Rattle.std.proofs.Common.{◌≡◌, ℕ, zero, suc, ◌<◌, Bool, true, ◌&&◌, eqb, inl, inr, le_of_suc-le-suc, not-suc-le-zero, eq-or-lt_of_le}
use mathlib.Core.Path.{subst⁻¹}
use Rattle.std.proofs.lemmas.Bool.{and_parts, eqb-true}

-- the test f passes at each number below n
abbrev pub every : ℕ → (ℕ → Bool) → Bool
every zero f = true
every (suc n) f = f n && every n f

pub at : (n : ℕ) (f : ℕ → Bool) → every n f ≡ true → (k : ℕ) → k < n → f k ≡ true
at zero f e k h = absurd (not-suc-le-zero h)
at (suc n) f e k h =
    let parts = and_parts (f n) (every n f) e in
    elim (eq-or-lt_of_le (le_of_suc-le-suc h)) [ inl same ↦ subst⁻¹ (λ m. f m ≡ true) same parts.0 | inr less ↦ at n f parts.1 k less ]

-- two functions agree at each number below n
abbrev pub agree : ℕ → (ℕ → ℕ) → (ℕ → ℕ) → Bool
agree n f g = every n (λ k. eqb (f k) (g k))

pub agree_at : (n : ℕ) (f g : ℕ → ℕ) → agree n f g ≡ true → (k : ℕ) → k < n → f k ≡ g k
agree_at n f g e k h = eqb-true (f k) (g k) (at n (λ m. eqb (f m) (g m)) e k h)

-- and of two numbers, each below n
pub agree-at-two : (n : ℕ) (f g : ℕ → ℕ → ℕ) → every n (λ k. agree n (f k) (g k)) ≡ true → (k m : ℕ) → k < n → m < n → f k m ≡ g k m
agree-at-two n f g e k m hk hm = agree_at n (f k) (g k) (at n (λ j. agree n (f j) (g j)) e k hk) m hm
