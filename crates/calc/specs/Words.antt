-- The words of a line.
use Rattle.std.specs.Prelude.{◌≡◌, Bool, true, false, nat_lt, ◌&&◌, length, ◌≢◌, ℕ, List, drop, ℤ, if◌then◌else◌, Option, Result, MatchOption, MatchResult, FitsSigned, negsuc, codes}
use Rattle.std.specs.Int.{w32}
use Rattle.std.specs.List.{list_all}
use Rattle.std.specs.Char.{is_ascii_digit}
use Rattle.std.specs.Str.Parse.{starts_with_minus, signed_digits_value}
use Rattle.domain.specs.declared.number.Number.{Number}
use Rattle.domain.specs.Numbers.{number}
use Rattle.calc.specs.declared.asking.DomainName.{DomainName}
use Rattle.calc.specs.declared.asking.DomainName.TheVariants.{Whole, Residue, Byte}
use Rattle.calc.specs.declared.no_answer.NoAnswer.{NoAnswer}
use Rattle.calc.specs.declared.no_answer.NoAnswer.TheVariants.{NotUnderstood}

abbrev pub domain_word : DomainName → List ℕ
domain_word Whole = codes "whole"
domain_word Residue = codes "residue"
domain_word Byte = codes "byte"

-- r is the domain that the word names, or says that it names none
abbrev pub NamesDomain : List ℕ → Result DomainName NoAnswer → Type 0
NamesDomain word r = MatchResult r (λ d. word ≡ domain_word d) (λ e. (e ≡ NotUnderstood) × ((d : DomainName) → word ≢ domain_word d))

abbrev pub without_minus : List ℕ → List ℕ
without_minus word = if starts_with_minus word then drop 1 word else word

-- one decimal digit or more, with or without a minus sign in front
abbrev pub is_decimal : List ℕ → Bool
is_decimal word = nat_lt 0 (length (without_minus word)) && list_all is_ascii_digit (without_minus word)

-- z as a number, or the least of all numbers where it does not fit
abbrev pub IsHeld : ℤ → Number → Type 0
IsHeld z a = (FitsSigned w32 z → a ≡ number z) × (¬ FitsSigned w32 z → a ≡ number (negsuc 2147483647))

-- a is the number that a decimal word writes
abbrev pub IsNumber : List ℕ → Number → Type 0
IsNumber word a = (is_decimal word ≡ true) × IsHeld (signed_digits_value 10 word) a

-- r is the number that the word writes, if it is decimal
abbrev pub ReadsNumber : List ℕ → Option Number → Type 0
ReadsNumber word r = MatchOption r (is_decimal word ≡ false) (IsNumber word)
