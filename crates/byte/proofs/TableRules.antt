-- The rule of a table, by a test that is computed at each entry.
use Rattle.std.proofs.Common.{◌≡◌, ℕ, ◌<◌, Bool, true, List, get_or}
use Rattle.domain.proofs.Tests.{every, at}

-- P holds of each place below n and the entry of xs there, by a test that tells it of one entry
pub every_entry : (n : ℕ) (P : ℕ → ℕ → Type 0) (test : ℕ → ℕ → Bool) → ((k x : ℕ) → test k x ≡ true → P k x)
    → (xs : List ℕ) → every n (λ k. test k (get_or xs k 0)) ≡ true → (k : ℕ) → k < n → P k (get_or xs k 0)
every_entry n P test tells xs e k h = tells k (get_or xs k 0) (at n (λ m. test m (get_or xs m 0)) e k h)
