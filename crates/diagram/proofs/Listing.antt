-- Lists by their places.
use Rattle.std.proofs.Common.{◌≡◌, ℕ, zero, suc, ◌+◌, ◌<◌, ◌⊎◌, List, [], ◌∷◌, ◌++◌, length, get_or, take, refl, ◌∙◌, ⊎_elim, arith, length-append, length-take, get_or-take}
use native.Mathlib.Nat.{min-le_left, min-le_right}
use lib.ListN.{get_or-append}
use lib.Seq.{get_or-append_seam}
use Rattle.diagram.specs.Places.{All}

below_or : (k n : ℕ) → k < n + 1 → (k < n) ⊎ (k ≡ n)
below_or k n h = grind arith

-- one more item at the end
pub all_push : {X : Type 0} (P : ℕ → X → Type 0) (xs : List X) (x : X) → All P xs → P (length xs) x → All P (xs ++ x ∷ [])
all_push P xs x h here k d lt =
    let lt' : k < length xs + 1 = omega (arith, length-append xs (x ∷ [])) in
    ⊎_elim
    (λ (b : k < length xs). rw (get_or-append xs (x ∷ []) d k b) (h k d b))
    (λ (e : k ≡ length xs). rw (e, get_or-append_seam xs x [] d) here)
    (below_or k (length xs) lt')

-- inside a list the default does not matter
pub get_or-any : {X : Type 0} (l : List X) (i : ℕ) (c d : X) → i < length l → get_or l i c ≡ get_or l i d
get_or-any [] i c d h = absurd (omega arith)
get_or-any (a ∷ l) zero c d h = refl
get_or-any (a ∷ l) (suc i) c d h = get_or-any l i c d (omega arith)

-- an item of the first n
pub taken_at : {X : Type 0} (xs : List X) (n i : ℕ) (c d : X) → i < length (take n xs) → (i < length xs) × (get_or (take n xs) i c ≡ get_or xs i d)
taken_at xs n i c d h =
    let below : i < n = omega (arith, h, length-take n xs, min-le_left n (length xs)) in
    let inside : i < length xs = omega (arith, h, length-take n xs, min-le_right n (length xs)) in
    (inside, get_or-take n xs i c below ∙ get_or-any xs i c d inside)
