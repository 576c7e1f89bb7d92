-- The letters of an order are told apart by their places.
use Rattle.std.proofs.Common.{◌≡◌, ℕ, zero, suc, ◌<◌, ◌==◌, ◌≢◌, List, [], ◌∷◌, length, get_or, false, refl, ap, arith}
use Rattle.std.proofs.lemmas.Bool.{eq-eqb}
use Rattle.std.proofs.lemmas.Bool.Decides.{nat_tests}
use Rattle.diagram.specs.Orders.{Apart}
use Rattle.printing.specs.Meant.{place}

different : (a b : ℕ) → a ≢ b → (a == b) ≡ false
different a b h = grind (arith, nat_tests)

pub place_of : (ls : List ℕ) (x : ℕ) → x < length ls → Apart ls (length ls) → place ls (get_or ls x 0) ≡ x
place_of [] x h a = absurd (omega arith)
place_of (l ∷ ls) zero h a = rw (eq-eqb l l refl)
place_of (l ∷ ls) (suc x) h a =
    let b : ℕ = get_or ls x 0 in
    let below : x < length ls = omega arith in
    let rest : Apart ls (length ls) = λ i j r. a (suc i) (suc j) (omega (arith, r.0), omega (arith, r.1)) in
    rw (different l b (a 0 (suc x) (omega arith, omega arith))) (ap suc (place_of ls x below rest))
