-- The integers modulo 8,191 are a field.
use Rattle.std.specs.Prelude.{◌≡◌, ℕ, zero, suc, ◌*◌, ◌%◌, ◌^◌, ◌<◌, true, ◌≢◌, unsigned_abs, refl}
use Rattle.std.proofs.Common.{sym, ap, ◌∙◌, arith, mod-lt}
use native.Mathlib.Fin
use Rattle.std.proofs.Math.Nat.{mod-mod}
use Rattle.std.proofs.lemmas.Nat.{mul-mod_first}
use Rattle.std.proofs.lemmas.Bool.{lt-ltb}
use Rattle.domain.specs.declared.number.Number.{Number}
use Rattle.domain.specs.Fields.{FieldLaws}
use Rattle.domain.specs.Numbers.{below}
use Rattle.residue.specs.Residues.{residues}
use Rattle.domain.proofs.Coded.{plain_number, magnitude_below, again, back}
use Rattle.residue.specs.Modular.{modulo_laws, squares, squares-power}
use Rattle.domain.proofs.Tests.{agree_at}

-- Fermat's little theorem, computed at each residue but zero
fermat_squares : (n : ℕ) → n < 8190 → suc n * squares 8190 13 (suc n) 8189 % 8191 ≡ 1
unfolding squares
fermat_squares = agree_at 8190 (λ n. suc n * squares 8190 13 (suc n) 8189 % 8191) (λ n. 1) refl

fermat : (a : ℕ) → a < 8191 → a ≢ 0 → a * (a ^ 8189 % 8191) % 8191 ≡ 1
fermat zero l h = absurd (h refl)
fermat (suc n) l h =
    ap (λ (z : ℕ). suc n * z % 8191) (sym (squares-power 8190 13 (suc n) 8189 (omega arith) (omega arith))) ∙ fermat_squares n (omega arith)

inverse_unit : (a : Number) → below 8191 a ≡ true → residues.value a ≢ residues.ring.zero
    → residues.ring.mul (residues.value a) (residues.value (residues.inverse a)) ≡ residues.ring.one
inverse_unit a c h =
    let n = unsigned_abs a.int in
    Fin.val_path (mul-mod_first n (n ^ 8189 % 8191 % 8191) 8191
    ∙ (ap (λ (z : ℕ). n * z % 8191) (mod-mod (n ^ 8189) 8191)
    ∙ fermat n (magnitude_below 8191 a c) (λ z. h (Fin.val_path (ap (λ (m : ℕ). m % 8191) z)))))

pub residues_laws : FieldLaws residues
residues_laws = record {
  laws = modulo_laws 8190;
  apart = λ e. let z : ◌≡◌ {A = ℕ} 0 1 = ap (λ x. x.0) e in omega arith;
  inverts = λ a c h. (lt-ltb (unsigned_abs a.int ^ 8189 % 8191) 8191 (mod-lt (unsigned_abs a.int ^ 8189) (omega arith)), inverse_unit a c h);
  plain = λ a c. let n = plain_number 8191 a c in (n.0, n.1, omega (arith, n.2));
  only = again 8190;
  has = back 8190;
  code_zero = refl;
  code_one = refl;
}
