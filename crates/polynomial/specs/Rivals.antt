-- Rival diagrams: any list of entries with the letter rules and edges to lower numbers. Its weights are any elements, and
-- nothing in it need be reduced. Told by letters and polynomials alone.
use Rattle.std.specs.Prelude.{◌≡◌, ℕ, zero, suc, ◌<◌, ◌≤◌, List, [], ◌∷◌, ◌++◌, length, slice_index_or}
use Rattle.domain.specs.Ring.{Ring}
use Rattle.polynomial.specs.Entries.{Entry}
use Rattle.polynomial.specs.Polynomials.{Polynomial, Poly, letter, scaled}

-- what belongs to a number: a to 0, and what the list has at i to i + 1
abbrev pub at : {A : Type 0} → A → List A → ℕ → A
at a l zero = a
at a l (suc i) = slice_index_or l i a

-- the rules of one entry, ls being the letters of those before it; entry 0 has k, which is later than every letter
pub record Placed {E : Type 0} (k : ℕ) (ls : List ℕ) (e : Entry E) : Type 0 where
  pub known : e.letter < k
  pub lo_before : e.lo ≤ length ls
  pub hi_before : e.hi ≤ length ls
  pub after : e.letter < at k ls e.lo
  pub from : e.letter ≤ at k ls e.hi

abbrev pub PlacedAfter : {E : Type 0} (k : ℕ) → List ℕ → List (Entry E) → Type 0
PlacedAfter k ls [] = Unit {0}
PlacedAfter k ls (e ∷ es) = Placed k ls e × PlacedAfter k (ls ++ (e.letter ∷ [])) es

-- what an entry stands for, fs being the polynomials of those before it
abbrev pub entry_polynomial : {E : Type 0} (R : Ring E) (k : ℕ) → List (Polynomial E k) → Entry E → Polynomial E k
entry_polynomial R k fs e =
    (Poly R k).add (scaled R k e.p (at (Poly R k).one fs e.lo)) ((Poly R k).mul (letter R k e.letter) (scaled R k e.q (at (Poly R k).one fs e.hi)))

abbrev pub polynomials_after : {E : Type 0} (R : Ring E) (k : ℕ) → List (Polynomial E k) → List (Entry E) → List (Polynomial E k)
polynomials_after R k fs [] = fs
polynomials_after R k fs (e ∷ es) = polynomials_after R k (fs ++ (entry_polynomial R k fs e ∷ [])) es

-- a rival for f: some element c times its entry r stands for f
pub record Rival {E : Type 0} (R : Ring E) (k : ℕ) (es : List (Entry E)) (f : Polynomial E k) : Type 0 where
  pub placed : PlacedAfter k [] es
  pub c : E
  pub r : ℕ
  pub known : r ≤ length es
  pub means : f ≡ scaled R k c (at (Poly R k).one (polynomials_after R k [] es) r)
