-- The decimal text of a number is read as that number.
use Rattle.std.proofs.Common.{◌≡◌, ℕ, ◌+◌, ◌*◌, ◌/◌, ◌%◌, ◌^◌, ◌<◌, List, [], ◌∷◌, ◌++◌, subst, append_assoc, arith, decimal}
use Rattle.std.proofs.lemmas.Fmt.{decimal_by_steps}
use Rattle.formula.specs.Grammar.{Number}
use Rattle.formula.specs.Grammar.Number.{digit, more}

pub decimal_reads : (n : ℕ) → n < 2 ^ 64 → (t : List ℕ) → Number n (decimal n ++ t) t
decimal_reads =
    decimal_by_steps (λ n ds. (t : List ℕ) → Number n (ds ++ t) t) (λ n h t. digit n h)
    (λ n ds h r t.
    let whole : 10 * (n / 10) + n % 10 ≡ n = omega arith in
    let some : 0 < n / 10 = omega arith in
    let last : n % 10 < 10 = omega arith in
    rw (append_assoc ds ((48 + n % 10) ∷ []) t) (subst (λ m. Number m (ds ++ ((48 + n % 10) ∷ t)) t) whole (more (n % 10) (r ((48 + n % 10) ∷ t)) some last)))
