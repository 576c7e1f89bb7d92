-- The number of each refusal.
use Rattle.std.specs.Prelude.{ℕ, Some, None, Option}
use Rattle.domain.specs.declared.fault.Fault.{Fault}
use Rattle.domain.specs.declared.fault.Fault.TheVariants.{BadOrder, BadCapacity, UnknownLetter, NoCode, Unlawful, OverLimit, OverDegree, Full, BadLength, Malformed, NoFormula, NoRoom, BadExponents, BadInput, Memory}

abbrev pub numbered : Fault → Option ℕ
numbered (BadOrder letters) = Some 1
numbered (BadCapacity asked) = Some 2
numbered (UnknownLetter letter) = Some 3
numbered (NoCode number) = Some 4
numbered (Unlawful entry) = Some 5
numbered (OverLimit limit) = Some 6
numbered (OverDegree degree) = Some 7
numbered (Full capacity) = Some 8
numbered (BadLength bytes) = Some 9
numbered Malformed = Some 10
numbered (NoFormula place) = Some 11
numbered (NoRoom room) = Some 12
numbered (BadExponents given) = Some 13
numbered BadInput = Some 14
-- want of memory is outside the fourteen
numbered Memory = None
