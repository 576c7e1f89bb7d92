-- What the tests in the text of a line tell.
use Rattle.std.proofs.Common.{◌≡◌, ℕ, ◌≤◌, true, pos, sym, refl, ap, ◌∙◌}
use mathlib.Core.Bool.{false≢true}
use Rattle.std.proofs.lemmas.Bool.Decides.{Decides-int_eq}
use Rattle.domain.specs.Model.{Model, Sound}
use Rattle.domain.specs.Numbers.{number}
use Rattle.polynomial.specs.Trees.{Tree, leaf, node}
use Rattle.diagram.specs.Lines.{has_code, is_leaf}

module _ {E : Type 0} {M : Model E} (S : Sound M) where
  -- an element is the value of its code
  coded : (w : E) → M.size w ≤ M.limit → (n : ℕ) → has_code M w (pos n) ≡ true → w ≡ M.value (number (pos n))
  coded w h n e = sym (S.codes.has w h).1 ∙ ap (λ z. M.value (number z)) ((Decides-int_eq (M.code w).int (pos n)).0 e)

  pub is-zero : (w : E) → M.size w ≤ M.limit → has_code M w (pos 0) ≡ true → w ≡ M.ring.zero
  is-zero w h e = coded w h 0 e ∙ S.codes.zero.1

  pub is-one : (w : E) → M.size w ≤ M.limit → has_code M w (pos 1) ≡ true → w ≡ M.ring.one
  is-one w h e = coded w h 1 e ∙ S.codes.one.1

pub is-leaf : {E : Type 0} (t : Tree E) → is_leaf t ≡ true → t ≡ leaf
is-leaf leaf e = refl
is-leaf (node x p m q n) e = absurd (false≢true e)
