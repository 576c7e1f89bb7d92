-- The exit of a `?`, and what a domain answers to codes.
use Rattle.std.proofs.Common.{◌≡◌, ℕ, Bool, true, false, cond, pos, IsErrAnd, Ok, Err, Result, ap, MatchResult, nat_le, arith}
use Rattle.domain.specs.Answers.{factored}
use Rattle.domain.specs.Model.{Model}
use Rattle.domain.specs.Numbers.{number, is_zero, no_code, natural}
use Rattle.domain.specs.declared.fault.Fault.TheVariants.{NoCode}
use Rattle.domain.specs.declared.fault.Fault.{Fault}
use Rattle.domain.specs.declared.number.Number.{Number}

pub fails : {T E : Type 0} {Q : E → Type 0} (r : Result T E) (P : T → Type 0) (B : E → Type 0) → IsErrAnd r Q → ((e : E) → Q e → B e) → MatchResult r P B
fails (Ok x) P B h f = absurd h
fails (Err e) P B h f = f e h

-- the factor of two codes
pub factored_ok : {E : Type 0} (M : Model E) (a b : Number) (z : Number × Number × Number) → M.coded a ≡ true → M.coded b ≡ true → is_zero b ≡ false
    → ◌≡◌ {A = Result (Number × Number × Number) Fault} (Ok z) (factored M a b) → z ≡ M.factor a b
factored_ok M a b z ca cb nz e =
    cc (
      e,
      ca,
      ap (λ (t : Bool). cond {A = Result (Number × Number × Number) Fault} t (cond (is_zero b) (Err (no_code b)) (Ok (M.factor a b))) (Err (no_code b))) cb,
      ap (λ (t : Bool). cond {A = Result (Number × Number × Number) Fault} t (Err (no_code b)) (Ok (M.factor a b))) nz,
    )

pub natural_ok : (n : ℕ) (a : Number) → Ok a ≡ natural n → a ≡ number (pos n)
natural_ok n a e = go (nat_le n 2147483647) e
  where
    go : (t : Bool) → Ok a ≡ cond t (Ok (number (pos n))) (Err (NoCode (pos n))) → a ≡ number (pos n)
    go true q = cc q
    go false q = let z : ◌≡◌ {A = ℕ} 0 1 = cc in absurd (omega arith)
