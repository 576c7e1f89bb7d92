-- The list of powers begins with 1, and each further entry is 3 times the one before: this is computed at each entry.
use Rattle.std.proofs.Common.{◌≡◌, ℕ, zero, suc, ◌<◌, Bool, true, List, get_or, refl, ap, ◌∙◌, le_of_suc-le-suc, arith}
use Rattle.byte.specs.Bytes.{shifted, selected, times, power, three_to}
use Rattle.domain.proofs.Tests.{agree, agree_at}
use Rattle.byte.specs.declared.TheConstants.{POWERS}
use Rattle.byte.proofs.power.Goals as goal

abbrev tripling : List ℕ → Bool
tripling xs = agree 509 (λ k. get_or xs (suc k) 0) (λ k. times 3 (get_or xs k 0))

entry : (xs : List ℕ) → get_or xs 0 0 ≡ 1 → tripling xs ≡ true → (k : ℕ) → k < 510 → get_or xs k 0 ≡ three_to k
unfolding power
entry xs first next zero h = first
entry xs first next (suc k) h =
    agree_at 509 (λ m. get_or xs (suc m) 0) (λ m. times 3 (get_or xs m 0)) next k (le_of_suc-le-suc h) ∙ ap (times 3) (entry xs first next k (omega arith))

pub returns : goal.returns
unfolding shifted selected times
returns c = entry POWERS.now refl refl c.args.i c.requires
