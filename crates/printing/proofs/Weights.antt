-- The text of a weight.
use Rattle.std.proofs.Common.{◌≡◌, ℕ, suc, ◌≤◌, true, List, ◌++◌, length, ℤ, pos, negsuc, refl, ap, ◌∙◌, arith}
use Rattle.std.specs.Fmt.{signed_decimal}
use Rattle.domain.specs.Model.{Model, Sound}
use Rattle.domain.specs.Numbers.{number}
use Rattle.formula.specs.Formulas.Formula.{constant as the_number}
use Rattle.formula.specs.Grammar.Part.{factor}
use Rattle.formula.specs.Grammar.Reads.{a_number, an_atom}
use Rattle.polynomial.specs.Polynomials.{Poly, constant}
use Rattle.polynomial.proofs.SeriesRing.{poly_laws}
use Rattle.diagram.specs.Lines.{weight_text}
use Rattle.printing.proofs.Decimals.{decimal_reads}
use Rattle.printing.proofs.Constants.{neg-neg, constant-neg}
use Rattle.printing.proofs.Reading.{Reading, same, negated}

module _ {E : Type 0} (M : Model E) (S : Sound M) (ls : List ℕ) where
  abbrev k : ℕ
  k = length ls

  -- digits mean the element whose code they are
  plain_reads : (n : ℕ) → M.coded (number (pos n)) ≡ true → (d : ℕ) (t : List ℕ) → Reading M ls factor d (constant M.ring k (M.value (number (pos n)))) (signed_decimal (pos n) ++ t) t
  plain_reads n c d t =
      let small : n ≤ 2147483647 = S.codes.narrow (number (pos n)) c in
      record { spelled = the_number n; reads = an_atom (a_number (decimal_reads n (omega arith) t) (omega arith)); known = c; means = refl }

  code_reads : (z : ℤ) → M.coded (number z) ≡ true → (d : ℕ) (t : List ℕ) → Reading M ls factor d (constant M.ring k (M.value (number z))) (signed_decimal z ++ t) t
  code_reads (pos n) c d t = plain_reads n c d t
  code_reads (negsuc n) c d t =
      let (opposite, is) = S.codes.negative n c in
      let P = Poly M.ring k in
      let w : E = M.value (number (negsuc n)) in
      let back : P.neg (constant M.ring k (M.value (number (pos (suc n))))) ≡ constant M.ring k w =
      ap (λ v. P.neg (constant M.ring k v)) is ∙ (ap P.neg (constant-neg S.laws k w) ∙ neg-neg (poly_laws S.laws k) (constant M.ring k w)) in
      same back (negated (plain_reads (suc n) opposite d t))

  -- a weight's text means the weight
  pub weight_reads : (w : E) → M.size w ≤ M.limit → (d : ℕ) (t : List ℕ) → Reading M ls factor d (constant M.ring k w) (weight_text M w ++ t) t
  weight_reads w h d t =
      let (coded, is) = S.codes.has w h in
      same (ap (constant M.ring k) is) (code_reads (M.code w).int coded d t)
