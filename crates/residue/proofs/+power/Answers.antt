use Rattle.std.proofs.Common.{ℕ, ◌*◌, ◌%◌, ◌^◌, sym, ap, ◌∙◌}
use native.Mathlib.Nat.{pow-zero}
use Rattle.residue.specs.Modular.{even_power, odd_power}
use Rattle.residue.proofs.+power.Goals as goal

pub returns-then-exponent-eq0 : goal.returns-then-exponent-eq0
returns-then-exponent-eq0 t c = sym (ap (λ (n : ℕ). c.args.a ^ n % 8191) c.if-exponent-eq0.true ∙ ap (λ (z : ℕ). z % 8191) (pow-zero c.args.a))

pub returns-then-exponent-eq0-2 : goal.returns-then-exponent-eq0-2
returns-then-exponent-eq0-2 t c = c.power-half.ensures ∙ even_power 8190 c.args.a c.args.exponent c.if-exponent-eq0-2.true

pub returns-else-exponent-eq0-2 : goal.returns-else-exponent-eq0-2
returns-else-exponent-eq0-2 t c =
    ap (λ (z : ℕ). z * c.args.a % 8191) c.power-half.ensures ∙ odd_power 8190 c.args.a c.args.exponent c.if-exponent-eq0-2.false
