-- A letter alone.
use Rattle.std.specs.Prelude.{◌≡◌, ℕ, ◌<◌, List, length, slice_index_or}
use Rattle.domain.specs.Model.{Model}
use Rattle.domain.specs.declared.fault.Fault.{Fault}
use Rattle.domain.specs.declared.fault.Fault.TheVariants.{UnknownLetter, Full}
use Rattle.polynomial.specs.Diagrams.{InDiagram}
use Rattle.polynomial.specs.Polynomials.{letter}
use Rattle.diagram.specs.Checks.{Else}
use Rattle.diagram.specs.Filling.{Named}
use Rattle.diagram.specs.Nodes.{Granted, Denied}
use Rattle.diagram.specs.declared.entry.Entry.{Entry}
use Rattle.diagram.specs.declared.entry.Reference.{Reference}

-- r is the reference of the letter, whose entry was added if it was missing
pub record Lettered {E : Type 0} (M : Model E) (k capacity : ℕ) (ls : List ℕ) (es fs : List Entry) (byte : ℕ) (r : Reference) : Type 0 where
  pub place : ℕ
  pub known : place < k
  pub names : slice_index_or ls place 0 ≡ byte
  pub granted : Granted M k capacity es fs (InDiagram M k (letter M.ring k place)) (letter M.ring k place) r

-- its entry is missing, and there is no room for it
pub record Crowded {E : Type 0} (M : Model E) (k capacity : ℕ) (ls : List ℕ) (es : List Entry) (byte : ℕ) (e : Fault) : Type 0 where
  pub place : ℕ
  pub known : place < k
  pub names : slice_index_or ls place 0 ≡ byte
  pub denied : Denied M capacity es (InDiagram M k (letter M.ring k place)) e

-- why a letter is refused: 3, then 8
abbrev pub BadLetter : List ℕ → List Entry → ℕ → ℕ → Fault → Type 0
BadLetter ls es capacity byte = Else (Named ls byte) (UnknownLetter byte) (λ e. (e ≡ Full capacity) × (length es < capacity → ⊥))

abbrev pub NoLetter : {E : Type 0} → Model E → ℕ → List ℕ → List Entry → ℕ → ℕ → Fault → Type 0
NoLetter M k ls es capacity byte = Else (Named ls byte) (UnknownLetter byte) (Crowded M k capacity ls es byte)
