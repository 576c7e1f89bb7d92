use Rattle.std.proofs.Common.{◌≡◌, ◌*◌, ◌++◌, take, drop}
use Rattle.formula.specs.Flow.{flow_bytes}
use Rattle.formula.specs.Limits.{record_size}
use Rattle.formula.proofs.flow.write_records.Given as goal

abbrev pub invariant-loop-i : goal.invariant-loop-i
invariant-loop-i l = l.buffer ≡ flow_bytes (take l.i l.records) ++ drop (record_size * l.i) l.initial.buffer
