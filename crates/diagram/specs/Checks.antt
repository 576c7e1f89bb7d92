-- Refusals, in the order in which they are looked at.
use Rattle.std.specs.Prelude.{◌≡◌, ◌⊎◌, Ok, Err, Result}
use Rattle.domain.specs.declared.fault.Fault.{Fault}

-- an answer for which Q holds where P holds, else the refusal f
abbrev pub Checked : {X : Type 0} → Type 0 → Fault → (X → Type 0) → Result X Fault → Type 0
Checked P f Q (Ok x) = P × Q x
Checked P f Q (Err e) = (P → ⊥) × (e ≡ f)

-- accepted exactly where P holds, else the refusal f
abbrev pub Admits : {X : Type 0} → Type 0 → Fault → Result X Fault → Type 0
Admits P f (Ok x) = P
Admits P f (Err e) = (P → ⊥) × (e ≡ f)

-- the refusal e is f where P does not hold, else it is by what follows
abbrev pub Else : Type 0 → Fault → (Fault → Type 0) → Fault → Type 0
Else P f rest e = ((P → ⊥) × (e ≡ f)) ⊎ (P × rest e)

-- no refusal is left
abbrev pub Never : Fault → Type 0
Never e = ⊥
