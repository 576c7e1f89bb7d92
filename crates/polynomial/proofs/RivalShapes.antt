-- No list of entries that stands for a polynomial has fewer than its diagram, and some list has as many.
use Rattle.std.proofs.Common.{◌≡◌, ℕ, zero, suc, ◌<◌, ◌≤◌, List, [], ◌∷◌, ◌++◌, map, sym, refl, ap, ◌∙◌, subst, ap₂, arith}
use mathlib.Core.List.{map-append}
use lib.ListN.{get_or-map}
use Rattle.std.proofs.lemmas.List.{length-map}
use Rattle.domain.specs.Ring.{Ring}
use Rattle.polynomial.proofs.Shapes.{Sits, ShapeAfter}
use Rattle.polynomial.specs.Entries.{Entry, look, stands, trees_after, trees}
use Rattle.polynomial.specs.Polynomials.{Poly, constant, letter}
use Rattle.polynomial.specs.Rivals.{at, Placed, PlacedAfter, polynomials_after}
use Rattle.polynomial.specs.Theorems.{LeastEntries, Attained}
use Rattle.polynomial.specs.Trees.{Tree, leaf, node, After, From, meaning}
use Rattle.domain.specs.Model.{Model}
use Rattle.polynomial.proofs.ElementFacts.{Facts}
use Rattle.polynomial.proofs.Minimality.{minimal, length-trees}
use Rattle.polynomial.proofs.GrowingTrees.{least}

abbrev first : {E : Type 0} → ℕ → Tree E → ℕ
first k leaf = k
first k (node x p m q n) = x

after_of : {E : Type 0} (k x : ℕ) (t : Tree E) → x < first k t → After x t
after_of k x leaf h = tt
after_of k x (node y p m q n) h = h

from-of : {E : Type 0} (k x : ℕ) (t : Tree E) → x ≤ first k t → From x t
from-of k x leaf h = tt
from-of k x (node y p m q n) h = h

at_map : {A B : Type 0} (f : A → B) (a : A) (l : List A) (i : ℕ) → at (f a) (map f l) i ≡ f (at a l i)
at_map f a l zero = refl
at_map f a l (suc i) = get_or-map f l i a

at-look : {E : Type 0} (ts : List (Tree E)) (i : ℕ) → at leaf ts i ≡ look ts i
at-look ts zero = refl
at-look ts (suc i) = refl

module _ {E : Type 0} (k : ℕ) where
  sits : (ts : List (Tree E)) (e : Entry E) → Placed k (map (first k) ts) e → Sits k ts e
  sits ts e h = record {
    known = h.known;
    lo_before = omega (arith, h.lo_before, length-map ts (first k));
    hi_before = omega (arith, h.hi_before, length-map ts (first k));
    after = after_of k e.letter (look ts e.lo) (subst (λ z. e.letter < z) (at_map (first k) leaf ts e.lo ∙ ap (first k) (at-look ts e.lo)) h.after);
    from = from-of k e.letter (look ts e.hi) (subst (λ z. e.letter ≤ z) (at_map (first k) leaf ts e.hi ∙ ap (first k) (at-look ts e.hi)) h.from);
  }

  rival_of : (ts : List (Tree E)) (es : List (Entry E)) → PlacedAfter k (map (first k) ts) es → ShapeAfter k ts es
  rival_of ts [] h = tt
  rival_of ts (e ∷ es) h = (sits ts e h.0, rival_of (ts ++ (stands ts e ∷ [])) es (subst (λ l. PlacedAfter k l es) (sym (map-append (first k) ts (stands ts e ∷ []))) h.1))

  module _ (R : Ring E) where
    at-meaning : (ts : List (Tree E)) (i : ℕ) → at (Poly R k).one (map (meaning R k) ts) i ≡ meaning R k (look ts i)
    at-meaning ts i = at_map (meaning R k) leaf ts i ∙ ap (meaning R k) (at-look ts i)

    means_of : (ts : List (Tree E)) (es : List (Entry E)) → polynomials_after R k (map (meaning R k) ts) es ≡ map (meaning R k) (trees_after ts es)
    means_of ts [] = refl
    means_of ts (e ∷ es) =
        ap (λ l. polynomials_after R k l es) (ap₂ (λ a b. map (meaning R k) ts ++ ((Poly R k).add ((Poly R k).mul (constant R k e.p) a) ((Poly R k).mul (letter R k e.letter) ((Poly R k).mul (constant R k e.q) b)) ∷ [])) (at-meaning ts e.lo) (at-meaning ts e.hi) ∙ sym (map-append (meaning R k) ts (stands ts e ∷ [])))
        ∙ means_of (ts ++ (stands ts e ∷ [])) es

pub least_entries : {E : Type 0} (M : Model E) (S : Facts M) (k : ℕ) → LeastEntries M k
least_entries M S k t d w l ts D es F =
    let R = M.ring in
    minimal M S k t d w l ts D es (rival_of k [] es F.placed) F.c F.r
    (F.means ∙ ap ((Poly R k).mul (constant R k F.c)) (ap (λ fs. at (Poly R k).one fs F.r) (means_of k R [] es) ∙ at-meaning k R (trees es) F.r))

-- and the least number is attained
of_after : {E : Type 0} (k x : ℕ) (t : Tree E) → x < k → After x t → x < first k t
of_after k x leaf g h = g
of_after k x (node y p m q n) g h = h

of-from : {E : Type 0} (k x : ℕ) (t : Tree E) → x < k → From x t → x ≤ first k t
of-from k x leaf g h = omega arith
of-from k x (node y p m q n) g h = h

module _ {E : Type 0} (k : ℕ) where
  placed : (ts : List (Tree E)) (e : Entry E) → Sits k ts e → Placed k (map (first k) ts) e
  placed ts e h = record {
    known = h.known;
    lo_before = omega (arith, h.lo_before, length-map ts (first k));
    hi_before = omega (arith, h.hi_before, length-map ts (first k));
    after = subst (λ z. e.letter < z) (sym (at_map (first k) leaf ts e.lo ∙ ap (first k) (at-look ts e.lo))) (of_after k e.letter (look ts e.lo) h.known h.after);
    from = subst (λ z. e.letter ≤ z) (sym (at_map (first k) leaf ts e.hi ∙ ap (first k) (at-look ts e.hi))) (of-from k e.letter (look ts e.hi) h.known h.from);
  }

  of_rival : (ts : List (Tree E)) (es : List (Entry E)) → ShapeAfter k ts es → PlacedAfter k (map (first k) ts) es
  of_rival ts [] h = tt
  of_rival ts (e ∷ es) h = (placed ts e h.0, subst (λ l. PlacedAfter k l es) (map-append (first k) ts (stands ts e ∷ [])) (of_rival (ts ++ (stands ts e ∷ [])) es h.1))

pub attained : {E : Type 0} (M : Model E) (S : Facts M) (k : ℕ) → Attained M k
attained {E} M S k t d w l =
    let R = M.ring in
    let L = least M S k t d in (
      trees L.es,
      L.diagram,
      L.es,
      record {
        placed = of_rival k [] L.es L.rival;
        c = w;
        r = L.r;
        known = omega (arith, L.known, length-trees L.es);
        means = ap ((Poly R k).mul (constant R k w)) (sym (ap (λ fs. at (Poly R k).one fs L.r) (means_of k R [] L.es) ∙ (at-meaning k R (trees L.es) L.r ∙ ap (meaning R k) L.looks)));
      },
      length-trees L.es,
    )
