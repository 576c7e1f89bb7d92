use Rattle.std.proofs.Common.{◌≡◌, ◌<◌, nat_abs, ap, sym, subst, ◌∙◌, arith, rules, to_z-of_z}
use Rattle.std.proofs.lemmas.Nat.Gcd.{le_of_dvd}
use Rattle.domain.specs.declared.number.Number.{Number}
use Rattle.domain.specs.Numbers.{number}
use Rattle.whole.specs.Integers.{common}
use Rattle.whole.specs.IntegerLaws.{common-pos}
use Rattle.whole.proofs.Fitting.{small_fits}
use Rattle.whole.proofs.common.Goals as goal

pub signed-requires : goal.signed-requires
signed-requires c =
    let e : c.unsigned_abs-2.result ≡ nat_abs c.args.b.int = c.unsigned_abs-2.ensures.value ∙ ap nat_abs (to_z-of_z (small_fits c.args.b.int c.requires.in_range)) in
    let l = le_of_dvd (omega (arith, e, c.requires.nonzero)) c.gcd-d.ensures.greatest.1 in
    omega (arith, e, c.requires.in_range, l)

-- the common divisor is not zero, since b is not
some : (a b g : Number) → 0 < nat_abs b.int → g ≡ number (common a.int b.int) → 0 < nat_abs g.int
some a b g h e = let P : Number → Type 0 = λ r. 0 < nat_abs r.int in subst P (sym e) (common-pos a.int b.int h)

pub returns-clause-nonzero : goal.returns-clause-nonzero
returns-clause-nonzero c = some c.args.a c.args.b c.signed.result c.requires.nonzero (search rules)
