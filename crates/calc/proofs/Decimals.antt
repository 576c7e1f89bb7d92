-- What `parse` reads of a decimal word.
use Rattle.std.proofs.Common.{◌≡◌, ℕ, ◌∙◌, ℤ, nat_lt, Bool, true, false, List, [], ◌∷◌, ◌&&◌, length, drop, cond, Result, Ok, Err, negsuc, refl, subst, sym, ap, arith, ltb-true}
use Rattle.std.specs.Int.{w32}
use Rattle.std.specs.Char.{is_ascii_digit}
use Rattle.std.specs.List.{list_all}
use Rattle.std.specs.Result.{result_unwrap_or}
use Rattle.std.specs.Str.{all_ascii_digits}
use Rattle.std.specs.Str.Parse.{IsNumeral, ParsesSigned, without_leading_sign, without_leading_plus, starts_with_minus, signed_digits_value}
use Rattle.std.proofs.lemmas.Bool.{and_parts}
use Rattle.std.proofs.lemmas.Str.Parse.{tells_all_ascii_digits, numerals_by_value, digit_at, without_leading_plus_none}
use Rattle.domain.specs.Numbers.{number}
use Rattle.calc.specs.Words.{is_decimal, IsHeld}

same_test : (ds : List ℕ) → list_all is_ascii_digit ds ≡ all_ascii_digits ds
same_test [] = refl
same_test (d ∷ ds) = ap (λ b. is_ascii_digit d && b) (same_test ds)

numeral : (ds : List ℕ) → (nat_lt 0 (length ds) && list_all is_ascii_digit ds) ≡ true → IsNumeral 10 ds
numeral ds e =
    let parts = and_parts _ _ e in
    (ltb-true 0 (length ds) parts.0, (numerals_by_value _ tells_all_ascii_digits).to ds (sym (same_test ds) ∙ parts.1))

-- no digit is a plus sign
no_plus : (ds : List ℕ) → IsNumeral 10 ds → IsNumeral 10 (without_leading_plus ds)
no_plus ds n = subst (IsNumeral 10) (sym (without_leading_plus_none ds (λ e. let d = digit_at ds 0 n.1 n.0 in omega (arith, d.0, d.1, e)))) n

numeral_of : (word : List ℕ) → is_decimal word ≡ true → IsNumeral 10 (without_leading_sign word)
numeral_of word e = at (starts_with_minus word) e
  where
    at : (t : Bool) → (nat_lt 0 (length (cond t (drop 1 word) word)) && list_all is_ascii_digit (cond t (drop 1 word) word)) ≡ true
        → IsNumeral 10 (cond t (drop 1 word) (without_leading_plus word))
    at true e = numeral (drop 1 word) e
    at false e = no_plus word (numeral word e)

pub held : {E : Type 0} (word : List ℕ) (r : Result ℤ E) → is_decimal word ≡ true → ParsesSigned w32 10 word r
    → IsHeld (signed_digits_value 10 word) (number (result_unwrap_or r (negsuc 2147483647)))
held word (Ok z) e h = (λ f. ap number h.1, λ n. absurd (n h.0.1))
held word (Err x) e h = (λ f. absurd (h (numeral_of word e, f)), λ n. refl)
