-- Integers in 32 bits: what was accepted, and what an exact result that may not fit is answered.
use Rattle.std.proofs.Common.{◌≡◌, ℕ, ◌≤◌, Bool, true, false, cond, leb, ℤ, pos, negsuc, nat_abs, Some, None, Ok, Err, Option, Result, sym, refl, ap, ◌∙◌, ap₂, arith, to_z-of_z, w32, SFits, to_z, of_z, leb-true}
use Rattle.domain.specs.declared.fault.Fault.{Fault}
use Rattle.domain.specs.declared.fault.Fault.TheVariants.{OverLimit}
use Rattle.domain.specs.declared.number.Number.{Number}
use Rattle.domain.specs.Answers.{given, encoded}
use Rattle.whole.specs.Integers.{integers, fitted}
use Rattle.domain.specs.Numbers.{no_code}
use Rattle.std.specs.Option.{SomeIff}

pub small_fits : (z : ℤ) → nat_abs z ≤ 2147483647 → SFits w32 z
small_fits (pos n) h = record { sfits = omega arith }
small_fits (negsuc n) h = record { sfits = omega arith }

-- a number that was accepted is a code, and stands for itself
pub accepted : (a x : Number) → Ok x ≡ given integers a (Ok a) → (integers.coded a ≡ true) × (x ≡ a)
accepted a x e = go (integers.coded a) refl e
  where
    go : (t : Bool) → integers.coded a ≡ t → Ok x ≡ cond t (Ok a) (Err (no_code a)) → (integers.coded a ≡ true) × (x ≡ a)
    go true c e = (c, cc)
    go false c e = let z : ◌≡◌ {A = ℕ} 0 1 = cc in absurd (omega arith)

pub accepted_small : (a x : Number) → Ok x ≡ given integers a (Ok a) → nat_abs x.int ≤ 2147483647
accepted_small a x e =
    let t = accepted a x e in
    leb-true (nat_abs x.int) 2147483647 (ap (λ (y : Number). leb (nat_abs y.int) 2147483647) t.1 ∙ t.0)

fitted_is : (o : Option ℤ) (z : ℤ) → SomeIff o (SFits w32 z) z → fitted o ≡ encoded integers z
fitted_is None z h = go (leb (nat_abs z) 2147483647) refl
  where
    go : (t : Bool) → leb (nat_abs z) 2147483647 ≡ t → fitted None ≡ cond t (Ok (integers.code z)) (Err (OverLimit 2147483647))
    go true e = absurd (h (small_fits z (leb-true (nat_abs z) 2147483647 e)))
    go false e = refl
fitted_is (Some x) z h = ap (encoded integers) h.1

given_coded : {X : Type 0} (a : Number) (r : Result X Fault) → integers.coded a ≡ true → given integers a r ≡ r
given_coded a r c = ap (λ (t : Bool). cond t r (Err (no_code a))) c

-- an operation on two numbers, tried in 32 bits
pub tried : (op : ℤ → ℤ → ℤ) (a b x y : Number) (o : Option ℤ) → Ok x ≡ given integers a (Ok a) → Ok y ≡ given integers b (Ok b)
    → SomeIff o (SFits w32 (op (to_z w32 (of_z w32 x.int)) (to_z w32 (of_z w32 y.int)))) (op (to_z w32 (of_z w32 x.int)) (to_z w32 (of_z w32 y.int)))
    → fitted o ≡ given integers a (given integers b (encoded integers (op a.int b.int)))
tried op a b x y o ea eb h =
    let s = accepted a x ea in
    let t = accepted b y eb in
    let u = to_z-of_z (small_fits x.int (accepted_small a x ea)) ∙ ap (λ (n : Number). n.int) s.1 in
    let v = to_z-of_z (small_fits y.int (accepted_small b y eb)) ∙ ap (λ (n : Number). n.int) t.1 in
    fitted_is o (op (to_z w32 (of_z w32 x.int)) (to_z w32 (of_z w32 y.int))) h
    ∙ (ap (encoded integers) (ap₂ op u v)
    ∙ (sym (given_coded b (encoded integers (op a.int b.int)) t.0) ∙ sym (given_coded a (given integers b (encoded integers (op a.int b.int))) s.0)))
