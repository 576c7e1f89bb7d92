-- Sums and differences of two references.
use Rattle.std.specs.Prelude.{ℕ, ◌+◌, ◌≤◌, List}
use Rattle.domain.specs.Model.{Model}
use Rattle.domain.specs.declared.fault.Fault.{Fault}
use Rattle.domain.specs.declared.fault.Fault.TheVariants.{Unlawful, OverLimit}
use Rattle.diagram.specs.Checks.{Else}
use Rattle.diagram.specs.Tables.{mass_of, LawfulIn, Kept}
use Rattle.diagram.specs.declared.entry.Entry.{Entry}
use Rattle.diagram.specs.declared.entry.Reference.{Reference}

-- two lawful references whose masses add up to the limit at most, of a kept table
pub record Addable {E : Type 0} (M : Model E) (k : ℕ) (es : List Entry) (f g : Reference) : Type 0 where
  pub kept : Kept M k es
  pub first : LawfulIn M es f
  pub second : LawfulIn M es g
  pub light : mass_of M es f + mass_of M es g ≤ M.limit

-- the same of any table
pub record SmallSum {E : Type 0} (M : Model E) (es : List Entry) (f g : Reference) : Type 0 where
  pub first : LawfulIn M es f
  pub second : LawfulIn M es g
  pub light : mass_of M es f + mass_of M es g ≤ M.limit

-- why a sum or a difference is refused: 5 for f, then for g, then 6; or a later refusal
abbrev pub BadSum : {E : Type 0} → Model E → List Entry → Reference → Reference → (Fault → Type 0) → Fault → Type 0
BadSum M es f g rest =
    Else (LawfulIn M es f) (Unlawful f.entry) (Else (LawfulIn M es g) (Unlawful g.entry) (Else (mass_of M es f + mass_of M es g ≤ M.limit) (OverLimit M.limit) rest))
