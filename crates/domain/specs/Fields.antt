-- Fields: every element has a code, and every element but zero an inverse.
use Rattle.std.specs.Prelude.{◌≡◌, ℕ, ◌≤◌, Bool, true, ◌≢◌, pos}
use Rattle.domain.specs.declared.number.Number.{Number}
use Rattle.domain.specs.Model.{Model}
use Rattle.domain.specs.Numbers.{number}
use Rattle.domain.specs.Ring.{Ring, Laws}

-- the elements with their operations; which numbers are codes, the element of each code and the code of each element;
-- the inverse of each code
pub record Field (E : Type 0) : Type 0 where
  pub ring : Ring E
  pub coded : Number → Bool
  pub value : Number → E
  pub code : E → Number
  pub inverse : Number → Number

-- a code other than zero times its inverse is one
abbrev pub Inverts : {E : Type 0} → Model E → (Number → Number) → Type 0
Inverts M inverse =
    (a : Number) → M.coded a ≡ true → M.value a ≢ M.ring.zero → (M.coded (inverse a) ≡ true) × (M.ring.mul (M.value a) (M.value (inverse a)) ≡ M.ring.one)

-- all of b is taken out of a and b: g is b, p the quotient, q is 1
abbrev pub divided : {E : Type 0} → Field E → Number → Number → Number × Number × Number
divided F a b = (b, F.code (F.ring.mul (F.value a) (F.value (F.inverse b))), number (pos 1))

-- a field as a domain: no element is too large
abbrev pub domain_of : {E : Type 0} → Field E → Model E
domain_of F = record {
  ring = F.ring;
  size = λ a. 0;
  limit = 1;
  coded = F.coded;
  value = F.value;
  code = F.code;
  factor = divided F;
}

-- the laws of a field
pub record FieldLaws {E : Type 0} (F : Field E) : Type 0 where
  pub laws : Laws F.ring
  pub apart : F.ring.zero ≢ F.ring.one
  pub inverts : Inverts (domain_of F) F.inverse
  -- codes are not negative, and each element has just one
  pub plain : (a : Number) → F.coded a ≡ true → (n : ℕ) × (a ≡ number (pos n)) × (n ≤ 2147483647)
  pub only : (a : Number) → F.coded a ≡ true → F.code (F.value a) ≡ a
  pub has : (x : E) → (F.coded (F.code x) ≡ true) × (F.value (F.code x) ≡ x)
  pub code_zero : F.code F.ring.zero ≡ number (pos 0)
  pub code_one : F.code F.ring.one ≡ number (pos 1)
