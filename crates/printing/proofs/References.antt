-- The line of a reference is read as its polynomial.
use Rattle.std.proofs.Common.{◌≡◌, ℕ, suc, ◌+◌, ◌-◌, ◌<◌, ◌≤◌, Bool, true, false, cond, ◌&&◌, List, [], ◌∷◌, ◌++◌, length, get_or, pos, codes, sym, refl, ap, ◌∙◌, subst, ap₂, append_assoc, arith}
use Rattle.std.proofs.lemmas.Bool.{and_parts}
use Rattle.domain.specs.Model.{Model, Sound}
use Rattle.domain.specs.Ring.{Ring, Laws}
use Rattle.formula.specs.Formulas.Formula.{letter as the_letter}
use Rattle.formula.specs.Grammar.{Part, Reads}
use Rattle.formula.specs.Grammar.Part.{formula, term, factor}
use Rattle.formula.specs.Grammar.Reads.{a_letter, an_atom, a_factor}
use Rattle.formula.specs.Limits.{max_open}
use Rattle.formula.specs.Signs.{sign_close, first_letter}
use Rattle.polynomial.specs.Polynomials.{Polynomial, Poly, constant, letter}
use Rattle.polynomial.specs.Trees.{Tree, leaf, node, Reduced, meaning, value}
use Rattle.polynomial.proofs.Rings.{zero-add}
use Rattle.polynomial.proofs.SeriesRing.{poly_laws}
use Rattle.diagram.specs.Lines.{has_code, is_leaf, weight_text, times_text, entry_text, line}
use Rattle.diagram.specs.Orders.{Proper}
use Rattle.printing.specs.Meant.{place}
use Rattle.printing.proofs.Codes.{is-zero, is-one, is-leaf}
use Rattle.printing.proofs.Constants.{value-zero, value-one}
use Rattle.printing.proofs.Depths.{depth}
use Rattle.printing.proofs.Places.{place_of}
use Rattle.printing.proofs.Reading.{Reading, Before, same, as_term, times, enclosed, plus}
use Rattle.printing.proofs.Reading.Before.{first, next}
use Rattle.printing.proofs.Weights.{weight_reads}

module _ {E : Type 0} (M : Model E) (S : Sound M) (ls : List ℕ) (proper : Proper ls) where
  abbrev k : ℕ
  k = length ls

  abbrev P : Ring (Polynomial E k)
  P = Poly M.ring k

  abbrev L : Laws P
  L = poly_laws S.laws k

  abbrev Read : Part → ℕ → Polynomial E k → List ℕ → List ℕ → Type 0
  Read = Reading M ls

  abbrev Front : ℕ → List ℕ → Polynomial E k → List ℕ → Type 0
  Front = Before M ls

  -- behind whatever stands before it, the line of w and t adds what it means
  abbrev Line : Tree E → Type 0
  Line t = (w : E) → M.size w ≤ M.limit → (d : ℕ) → d + 1 + depth t ≤ max_open → (s : List ℕ) (a : Polynomial E k) (r : List ℕ) → Front d s a (line M ls w t ++ r) → Read formula d (P.add a (value M.ring k w t)) s r

  -- a line in parentheses is a factor
  in-parentheses : (t : Tree E) → Line t → (w : E) → M.size w ≤ M.limit → (d : ℕ) → d + 2 + depth t ≤ max_open → (r : List ℕ) → Read factor d (value M.ring k w t) (codes "(" ++ (line M ls w t ++ (codes ")" ++ r))) r
  in-parentheses t on w c d h r =
      enclosed (omega arith) (same (zero-add L (value M.ring k w t)) (on w c (suc d) (omega arith) _ P.zero (sign_close ∷ r) first))

  -- a weight alone
  bare : Line leaf
  bare w c d h s a r before =
      plus L before (as_term (same (sym (L.mul-one (constant M.ring k w))) (weight_reads M S ls w c d r)))

  -- a letter at its place
  letter_reads : (x : ℕ) → x < k → (d : ℕ) (t : List ℕ) → Read term d (letter M.ring k x) (get_or ls x 0 ∷ t) t
  letter_reads x h d t =
      let b : ℕ = get_or ls x 0 in
      let (low, high) = proper.ranged x h in
      let i : ℕ = b - first_letter in
      let byte : first_letter + i ≡ b = omega arith in
      let at : place ls (first_letter + i) ≡ x = ap (place ls) byte ∙ place_of ls x h proper.apart in
      record {
        spelled = the_letter i;
        reads = subst (λ c. Reads term d (the_letter i) (c ∷ t) t) byte (a_factor (an_atom (a_letter i (omega arith))));
        known = subst (λ y. y < k) (sym at) h;
        means = ap (letter M.ring k) at;
      }

  module _ (x : ℕ) (p : E) (m : Tree E) (q : E) (n : Tree E) (r : Reduced M k (node x p m q n)) (on_m : Line m) (on_n : Line n) where
    abbrev high : Polynomial E k
    high = P.mul (letter M.ring k x) (value M.ring k q n)

    -- the letter with its multiplicative edge
    leads : (d : ℕ) → d + 2 + depth n ≤ max_open → (t : List ℕ) → Read term d high (get_or ls x 0 ∷ (times_text M q n (entry_text M ls n) ++ t)) t
    leads d h t = go (has_code M q (pos 1) && is_leaf n) refl
      where
        go : (b : Bool) → (has_code M q (pos 1) && is_leaf n) ≡ b
            → Read term d high (get_or ls x 0 ∷ (cond b [] (codes "*(" ++ (line M ls q n ++ codes ")")) ++ t)) t
        go true e =
            let (one, end) = and_parts (has_code M q (pos 1)) (is_leaf n) e in
            let alone : value M.ring k q n ≡ P.one = ap₂ (value M.ring k) (is-one S q r.coded_q one) (is-leaf n end) ∙ value-one S.laws k leaf in
            same (sym (ap (P.mul (letter M.ring k x)) alone ∙ L.mul-one (letter M.ring k x))) (letter_reads x r.known d t)
        go false e =
            rw (append_assoc (line M ls q n) (codes ")") t)
            (times (letter_reads x r.known d _) (in-parentheses n on_n q r.coded_q d h t))

    -- the entry's own text, without a weight
    entry : (d : ℕ) → d + depth (node x p m q n) ≤ max_open → (s : List ℕ) (a : Polynomial E k) (t : List ℕ) → Front d s a (entry_text M ls (node x p m q n) ++ t) → Read formula d (P.add a (meaning M.ring k (node x p m q n))) s t
    entry d h s a t before = go (has_code M p (pos 0)) refl (plus L (subst (λ v. Front d s a (get_or ls x 0 ∷ v)) (append_assoc _ _ t) before) (leads d (omega arith) _))
      where
        go : (b : Bool) → has_code M p (pos 0) ≡ b → Read formula d (P.add a high) s (cond b [] (codes "+" ++ line M ls p m) ++ t) → Read formula d (P.add a (meaning M.ring k (node x p m q n))) s t
        go true e front =
            let nothing : value M.ring k p m ≡ P.zero = ap (λ c. value M.ring k c m) (is-zero S p r.coded_p e) ∙ value-zero S.laws k m in
            same (ap (P.add a) (sym (zero-add L high) ∙ ap (λ v. P.add v high) (sym nothing))) front
        go false e front =
            same (L.add_assoc a high (value M.ring k p m) ∙ ap (P.add a) (L.add_comm high (value M.ring k p m)))
            (on_m p r.coded_p d (omega arith) s (P.add a high) t (next front))

    -- the entry behind a weight, or alone
    inner : Line (node x p m q n)
    inner w c d h s a t before = go (has_code M w (pos 1)) refl before
      where
        go : (b : Bool) → has_code M w (pos 1) ≡ b → Front d s a (cond b (entry_text M ls (node x p m q n)) (weight_text M w ++ (codes "*(" ++ (entry_text M ls (node x p m q n) ++ codes ")"))) ++ t)
            → Read formula d (P.add a (value M.ring k w (node x p m q n))) s t
        go true e front =
            same (ap (P.add a) (sym (ap (λ v. value M.ring k v (node x p m q n)) (is-one S w c e) ∙ value-one S.laws k (node x p m q n))))
            (entry d (omega arith) s a t front)
        go false e front =
            let own : List ℕ = entry_text M ls (node x p m q n) in
            let shape : (weight_text M w ++ (codes "*(" ++ (own ++ codes ")"))) ++ t ≡ weight_text M w ++ (codes "*(" ++ (own ++ (codes ")" ++ t))) =
            append_assoc (weight_text M w) (codes "*(" ++ (own ++ codes ")")) t ∙ ap (λ v. weight_text M w ++ (codes "*(" ++ v)) (append_assoc own (codes ")") t) in
            plus L (subst (Front d s a) shape front)
            (times (as_term (weight_reads M S ls w c d _))
            (enclosed (omega arith) (same (zero-add L (meaning M.ring k (node x p m q n))) (entry (suc d) (omega arith) _ P.zero (sign_close ∷ t) first))))

  -- every line
  pub reads : (t : Tree E) → Reduced M k t → Line t
  reads leaf r = bare
  reads (node x p m q n) r = inner x p m q n r (reads m r.below) (reads n r.beside)
