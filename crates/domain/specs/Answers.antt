-- What the functions of a domain answer, refusals included, for any numbers.
use Rattle.std.specs.Prelude.{ℕ, cond, Ok, Err, Result, nat_le}
use Rattle.domain.specs.declared.fault.Fault.{Fault}
use Rattle.domain.specs.declared.fault.Fault.TheVariants.{OverLimit}
use Rattle.domain.specs.declared.number.Number.{Number}
use Rattle.domain.specs.Model.{Model}
use Rattle.domain.specs.Numbers.{is_zero, no_code}

-- r if a is a code, else refusal 4
abbrev pub given : {E X : Type 0} → Model E → Number → Result X Fault → Result X Fault
given M a r = cond (M.coded a) r (Err (no_code a))

-- r if a is not zero, else refusal 4
abbrev pub dividing : {X : Type 0} → Number → Result X Fault → Result X Fault
dividing a r = cond (is_zero a) (Err (no_code a)) r

-- the code of an element, or refusal 6 where it has none
abbrev pub encoded : {E : Type 0} → Model E → E → Result Number Fault
encoded M x = cond (nat_le (M.size x) M.limit) (Ok (M.code x)) (Err (OverLimit M.limit))

abbrev pub sized : {E : Type 0} → Model E → Number → Result ℕ Fault
sized M a = given M a (Ok (M.size (M.value a)))

abbrev pub negated : {E : Type 0} → Model E → Number → Result Number Fault
negated M a = given M a (Ok (M.code (M.ring.neg (M.value a))))

abbrev pub added : {E : Type 0} → Model E → Number → Number → Result Number Fault
added M a b = given M a (given M b (encoded M (M.ring.add (M.value a) (M.value b))))

abbrev pub multiplied : {E : Type 0} → Model E → Number → Number → Result Number Fault
multiplied M a b = given M a (given M b (encoded M (M.ring.mul (M.value a) (M.value b))))

abbrev pub factored : {E : Type 0} → Model E → Number → Number → Result (Number × Number × Number) Fault
factored M a b = given M a (given M b (dividing b (Ok (M.factor a b))))

-- of a field, whose inverse of each code other than zero is `inverse`
abbrev pub inverted : {E : Type 0} → Model E → (Number → Number) → Number → Result Number Fault
inverted M inverse a = given M a (dividing a (Ok (inverse a)))
