-- A difference as the sum with the negated reference.
use Rattle.std.proofs.Common.{◌≡◌, ◌*◌, List, Ok, Err, Result, ap, ap₂, ◌∙◌, inl, inr, arith, MatchResult}
use Rattle.domain.specs.Model.{Model, Sound}
use Rattle.domain.specs.declared.fault.Fault.{Fault}
use Rattle.polynomial.specs.Trees.{tree_mass}
use Rattle.diagram.specs.Sums.{SmallSum, BadSum}
use Rattle.diagram.specs.Tables.{tree, mass_of, LawfulIn}
use Rattle.diagram.specs.declared.entry.Entry.{Entry}
use Rattle.diagram.specs.declared.entry.Reference.{Reference}
use Rattle.diagram.proofs.Negating.{size_neg}

module _ {E : Type 0} (M : Model E) (S : Sound M) (es : List Entry) (f g n : Reference) (L : LawfulIn M es g) (N : LawfulIn M es n) (same : n.entry ≡ g.entry) (opposite : M.value n.weight ≡ M.ring.neg (M.value g.weight)) where
  same_mass : mass_of M es n ≡ mass_of M es g
  same_mass = ap₂ (λ s i. s * tree_mass M (tree M es i)) (ap M.size opposite ∙ size_neg M S (M.value g.weight)) same

  pub small_sum : SmallSum M es f n → SmallSum M es f g
  small_sum h = record { first = h.first; second = L; light = omega (arith, h.light, same_mass) }

  -- how the call ends
  pub differs : (A B : Reference → Type 0) (P Q : Fault → Type 0) → ((v : Reference) → A v → B v) → ((e : Fault) → P e → Q e)
      → (r : Result Reference Fault) → MatchResult r A (BadSum M es f n P) → MatchResult r B (BadSum M es f g Q)
  differs A B P Q a p (Ok v) h = a v h
  differs A B P Q a p (Err e) (inl h) = inl h
  differs A B P Q a p (Err e) (inr (first, inl h)) = absurd (h.0 N)
  differs A B P Q a p (Err e) (inr (first, inr (second, inl h))) = inr (first, inr (L, inl (λ l. h.0 (omega (arith, l, same_mass)), h.1)))
  differs A B P Q a p (Err e) (inr (first, inr (second, inr h))) = inr (first, inr (L, inr (omega (arith, h.0, same_mass), p e h.1)))
