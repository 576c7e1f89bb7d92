-- The rule of the logarithms is computed at each entry of the list.
use Rattle.std.proofs.Common.{◌≡◌, ℕ, zero, suc, Bool, true, ◌&&◌, eqb, ltb, get_or, refl, sym, ap, subst, ◌∙◌, arith}
use Rattle.std.proofs.lemmas.Bool.{and_parts, eqb-true, ltb-true}
use Rattle.byte.specs.Bytes.{shifted, selected, times, power, three_to, Logarithm}
use Rattle.byte.proofs.TableRules.{every_entry}
use Rattle.byte.specs.declared.TheConstants.{LOGARITHMS}
use Rattle.byte.proofs.logarithm.Goals as goal

-- n is right as the entry of a
abbrev test : ℕ → ℕ → Bool
test zero n = eqb n 0
test (suc a) n = ltb n 255 && eqb (three_to n) (suc a)

tells : (a n : ℕ) → test a n ≡ true → Logarithm a n
tells zero n e =
    let is = eqb-true n 0 e in
    record { small = omega arith; of_zero = λ z. is; of_other = λ some. absurd (some refl) }
tells (suc a) n e =
    let parts = and_parts (ltb n 255) (eqb (three_to n) (suc a)) e in
    record { small = ltb-true n 255 parts.0; of_zero = λ z. absurd (omega arith); of_other = λ some. eqb-true (three_to n) (suc a) parts.1 }

pub returns : goal.returns
unfolding shifted selected times power
returns c =
    let rule = every_entry 256 Logarithm test tells LOGARITHMS.now refl c.args.a c.ranges.a.fits in
    subst (Logarithm c.args.a) (sym (c.from-2.ensures ∙ ap (λ k. get_or LOGARITHMS.now k 0) c.from.ensures)) rule
