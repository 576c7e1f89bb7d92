-- Lines of two entry lists over one meaning and one order.
use Rattle.std.proofs.Common.{◌≡◌, ℕ, ◌≤◌, ◌↔◌, List, length, sym, subst}
use Rattle.domain.specs.Model.{Model, Sound}
use Rattle.polynomial.specs.Coefficients.{coefficient}
use Rattle.diagram.specs.Lines.{line}
use Rattle.diagram.specs.Orders.{Proper}
use Rattle.diagram.specs.Tables.{tree, of, LawfulIn, Kept, ShallowOver}
use Rattle.diagram.specs.declared.entry.Entry.{Entry}
use Rattle.diagram.specs.declared.entry.Reference.{Reference}
use Rattle.printing.proofs.Lines.{lines_tell}

module _ {E : Type 0} (M : Model E) (S : Sound M) (ls : List ℕ) (proper : Proper ls) (es fs : List Entry) (f g : Reference) (K : Kept M (length ls) es) (s : ShallowOver M es) (L : LawfulIn M es f) where
  -- over the meaning N and the order ks of the other
  abbrev Told : Model E → List ℕ → Type 0
  Told N ks =
      Kept N (length ks) fs → ShallowOver N fs → LawfulIn N fs g
      → (line M ls (M.value f.weight) (tree M es f.entry) ≡ line N ks (N.value g.weight) (tree N fs g.entry))
      ↔ ((e : List ℕ) → length e ≤ length ls → coefficient M.ring (length ls) (of M (length ls) es f) e ≡ coefficient M.ring (length ls) (of M (length ls) fs g) e)

  same : Told M ls
  same K' s' L' =
      lines_tell M S ls proper (tree M es f.entry) (tree M fs g.entry) (K.reduced f.entry L.inside) (K'.reduced g.entry L'.inside) (s f.entry L.inside) (s' g.entry L'.inside) (M.value f.weight) (M.value g.weight) L.lawful L'.lawful

  pub told : (N : Model E) (ks : List ℕ) → N ≡ M → ks ≡ ls → Told N ks
  told N ks eN ek = subst (λ n. Told n ks) (sym eN) (subst (λ k. Told M k) (sym ek) same)
