-- Masses that stop at the end of their range.
use Rattle.std.specs.Prelude.{ℕ, ◌+◌, ◌*◌, min, List, slice_index}
use Rattle.domain.specs.Model.{Model}
use Rattle.diagram.specs.declared.entry.Edge.{Edge}
use Rattle.diagram.specs.declared.entry.Entry.{Entry}

abbrev pub capped : ℕ → ℕ
capped n = min n 4294967295

-- the mass of an edge, and of an entry, from the masses ms of the numbers before it
abbrev pub edge_weighed : {E : Type 0} → Model E → List ℕ → Edge → ℕ
edge_weighed M ms a = capped (M.size (M.value a.weight) * slice_index ms a.target)

abbrev pub weighed : {E : Type 0} → Model E → List ℕ → Entry → ℕ
weighed M ms e = capped (edge_weighed M ms e.additive + edge_weighed M ms e.multiplicative)
