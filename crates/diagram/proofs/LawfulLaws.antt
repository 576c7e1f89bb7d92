-- The test of a reference.
use Rattle.std.proofs.Common.{◌≡◌, ℕ, ◌*◌, ◌≤◌, leb, leb-true, Bool, true, false, cond, Ok, Err, Result, eqb, ◌≢◌, List, ℤ, pos, negsuc, sym, refl, ap, ◌∙◌, subst, zero-mul, arith}
use mathlib.Core.Bool.{false≢true}
use Rattle.std.specs.Bool.{Decides}
use Rattle.std.proofs.lemmas.Bool.{eqb-true, eqb-false, le-leb}
use Rattle.domain.specs.Model.{Model, Sound}
use Rattle.domain.specs.Answers.{sized}
use Rattle.domain.specs.Numbers.{number, no_code, is_zero as zero_code}
use Rattle.domain.specs.declared.fault.Fault.{Fault}
use Rattle.domain.specs.declared.number.Number.{Number}
use Rattle.polynomial.specs.Trees.{tree_mass}
use Rattle.polynomial.proofs.ElementFacts.{size_zero}
use Rattle.diagram.specs.Masses.{capped}
use Rattle.diagram.specs.Places.{Falls}
use Rattle.diagram.specs.Tables.{tree, mass_of, LawfulIn}
use Rattle.diagram.specs.declared.entry.Entry.{Entry}
use Rattle.diagram.specs.declared.entry.Reference.{Reference}
use Rattle.diagram.proofs.Numbering.{leaf_zero}
use Rattle.diagram.proofs.Weighing.{capped-times, capped_within}

-- the number 0 is the only one that passes its test
pub zero_only : (n : Number) → zero_code n ≡ true → n ≡ number (pos 0)
zero_only n e = go n.int e
  where
    go : (z : ℤ) → zero_code (number z) ≡ true → number z ≡ number (pos 0)
    go (pos n) e = ap (λ m. number (pos m)) (eqb-true n 0 e)
    go (negsuc n) e = absurd (false≢true e)

-- a size times a mass, as it is computed, is tested against the limit
pub within_tested : {E : Type 0} (M : Model E) → Sound M → (s t m r l : ℕ) → m ≡ capped t → r ≡ capped (s * m) → l ≡ M.limit → Decides (leb r l) (s * t ≤ M.limit)
within_tested M S s t m r l em er el = (
  λ q. let h = leb-true r l q in (capped_within (s * t) M.limit S.codes.most).0 (omega (arith, h, is, el)),
  λ h. let k = (capped_within (s * t) M.limit S.codes.most).1 h in le-leb r l (omega (arith, k, is, el)),
)
  where
    is : r ≡ capped (s * t)
    is = er ∙ (ap (λ z. capped (s * z)) em ∙ capped-times s t)

module _ {E : Type 0} (M : Model E) where
  -- a size that is answered is the element's, and the number a code
  pub sized_ok : (w : Number) (s : ℕ) → ◌≡◌ {A = Result ℕ Fault} (Ok s) (sized M w) → (M.coded w ≡ true) × (s ≡ M.size (M.value w))
  sized_ok w s e = go (M.coded w) refl
    where
      go : (b : Bool) → M.coded w ≡ b → (M.coded w ≡ true) × (s ≡ M.size (M.value w))
      go true q = (q, cc (e, ap (λ (b : Bool). cond {A = Result ℕ Fault} b (Ok (M.size (M.value w))) (Err (no_code w))) q))
      go false q = absurd (let z : ◌≡◌ {A = Result ℕ Fault} (Ok s) (Err (no_code w)) = cc (e, ap (λ (b : Bool). cond {A = Result ℕ Fault} b (Ok (M.size (M.value w))) (Err (no_code w))) q) in let y : ◌≡◌ {A = ℕ} 0 1 = cc in omega arith)

  -- and one that is refused is the size of no code
  pub sized_err : (w : Number) (f : Fault) → ◌≡◌ {A = Result ℕ Fault} (Err f) (sized M w) → M.coded w ≢ true
  sized_err w f e q =
      let z : ◌≡◌ {A = Result ℕ Fault} (Err f) (Ok (M.size (M.value w))) = cc (e, ap (λ (b : Bool). cond {A = Result ℕ Fault} b (Ok (M.size (M.value w))) (Err (no_code w))) q) in
      let y : ◌≡◌ {A = ℕ} 0 1 = cc in omega arith

  module _ (S : Sound M) (es : List Entry) (f : Reference) where
    value-zero : zero_code f.weight ≡ true → M.value f.weight ≡ M.ring.zero
    value-zero z = ap M.value (zero_only f.weight z) ∙ S.codes.zero.1

    -- a zero weight
    pub zero_lawful : zero_code f.weight ≡ true → f.entry ≡ 0 → LawfulIn M es f
    zero_lawful z e =
        let s : M.size (M.value f.weight) ≡ 0 = ap M.size (value-zero z) ∙ size_zero S in
        let l : mass_of M es f ≡ 0 = ap (λ n. n * tree_mass M (tree M es f.entry)) s ∙ zero-mul (tree_mass M (tree M es f.entry)) in
        record {
          coded = subst (λ w. M.coded w ≡ true) (sym (zero_only f.weight z)) S.codes.zero.0;
          inside = omega arith;
          lawful = record { bare = λ _. ap (tree M es) e; light = omega arith };
        }

    pub zero_unlawful : Falls es → zero_code f.weight ≡ true → f.entry ≢ 0 → LawfulIn M es f → ⊥
    zero_unlawful fall z e L = e (leaf_zero M es f.entry fall L.inside (L.lawful.bare (value-zero z)))

    pub zero_tested : Falls es → zero_code f.weight ≡ true → Decides (eqb f.entry 0) (LawfulIn M es f)
    zero_tested fall z = (λ q. zero_lawful z (eqb-true f.entry 0 q), λ L. go L (eqb f.entry 0) refl)
      where
        go : LawfulIn M es f → (b : Bool) → eqb f.entry 0 ≡ b → b ≡ true
        go L true q = refl
        go L false q = absurd (zero_unlawful fall z (eqb-false f.entry 0 q) L)
