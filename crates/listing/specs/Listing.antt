-- Records in the bytes of a flow.
use Rattle.std.specs.Prelude.{ℕ, zero, suc, ◌+◌, ◌-◌, ◌*◌, ◌/◌, min, cond, List, [], ◌∷◌, length, take, drop, Err, Result, nat_lt}
use Rattle.domain.specs.declared.fault.Fault.{Fault}
use Rattle.domain.specs.declared.fault.Fault.TheVariants.{BadLength}
use Rattle.formula.specs.declared.record.Record.{Record}
use Rattle.formula.specs.Flow.{decoded}
use Rattle.formula.specs.Limits.{record_size, max_records}
use Rattle.listing.specs.declared.records.Records.{Records}

-- the record that the flow has at a place; refusal 9 where it ends before that
abbrev pub taken : List ℕ → ℕ → Result Record Fault
taken flow place = cond (nat_lt (length flow) (record_size * place + record_size)) (Err (BadLength (length flow))) (decoded place (take record_size (drop (record_size * place) flow)))

-- the records that the flow has at `count` places, the first of which is `place`
abbrev pub taken_from : ℕ → List ℕ → ℕ → List (Result Record Fault)
taken_from zero flow place = []
taken_from (suc count) flow place = taken flow place ∷ taken_from count flow (place + 1)

-- the records of the flow, at most as many as a flow has
abbrev pub listed : List ℕ → List (Result Record Fault)
listed flow = taken_from (min (length flow / record_size) max_records) flow 0

-- the records that are still to come
abbrev pub left : Records → List (Result Record Fault)
left s = taken_from (s.places.end - s.places.start) s.flow.now s.places.start
