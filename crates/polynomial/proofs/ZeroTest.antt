-- Zero can be told from the other elements of a domain.
use Rattle.std.proofs.Common.{◌≡◌, ◌≢◌, ◌⊎◌, pos, sym, ap, ◌∙◌, inl, inr, arith}
use lib.IntN.{ℤ_discrete}
use Rattle.std.proofs.lemmas.Bool.{cases_eq}
use Rattle.domain.specs.declared.number.Number.{Number}
use Rattle.domain.specs.Model.{Model, Sound}
use Rattle.domain.specs.Numbers.{number}

-- by the size, or by the code if every size is 0
pub zero_or_not : {E : Type 0} (M : Model E) → Sound M → (x : E) → (x ≡ M.ring.zero) ⊎ (x ≢ M.ring.zero)
zero_or_not {E} M S x =
    elim S.sizes.kinds [
      | inl all ↦
          let has = S.codes.has x (omega (arith, all x)) in
          let none = S.codes.zero in
          elim (ℤ_discrete (M.code x).int (pos 0)) [
            | yes e ↦ inl (sym has.1 ∙ (ap (λ z. M.value (number z)) e ∙ none.1))
            | no n ↦ inr (λ e. n (ap (λ (a : Number). a.int) (ap M.code (e ∙ sym none.1) ∙ S.codes.only (number (pos 0)) none.0)))
          ]
      | inr sized ↦ elim (cases_eq (M.size x) 0) [ inl e ↦ inl ((sized x).0 e) | inr n ↦ inr (λ e. n ((sized x).1 e)) ]
    ]
