use Rattle.std.proofs.Common.{◌∙◌, arith}
use Rattle.formula.proofs.Flows.{one_more}
use Rattle.formula.proofs.flow.write_records.Goals as goal

pub loop-i-preserved : goal.loop-i-preserved
loop-i-preserved c = one_more c.args.records.now c.args.buffer.now _ _ c.loop-i.i _ (omega arith) c.loop-i.invariant (c.copy_from_slice.ensures.after ∙ c.encode.ensures.bytes)
