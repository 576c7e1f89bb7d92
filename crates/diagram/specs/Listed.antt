-- The letters of an order, and the place of a letter.
use Rattle.std.specs.Prelude.{◌≡◌, ℕ, ◌<◌, List, length, take, Ok, Err, Result, slice_index}
use Rattle.domain.specs.declared.fault.Fault.{Fault}
use Rattle.domain.specs.declared.fault.Fault.TheVariants.{UnknownLetter}
use Rattle.diagram.specs.Places.{Absent}
use Rattle.diagram.specs.declared.order.Order.{Order}

-- the letters of an order, the highest first
abbrev pub listed : Order → List ℕ
listed o = take o.count o.letters

-- the place of a letter, or its refusal where it has none
abbrev pub Placed : List ℕ → ℕ → Result ℕ Fault → Type 0
Placed ls x (Ok i) = (i < length ls) × (slice_index ls i ≡ x)
Placed ls x (Err e) = Absent ls x (length ls) × (e ≡ UnknownLetter x)
