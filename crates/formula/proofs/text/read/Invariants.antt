use Rattle.formula.proofs.Reading.{Reading}
use Rattle.formula.proofs.text.read.Given as goal

abbrev pub invariant-loop-place : goal.invariant-loop-place
invariant-loop-place l = Reading l.text l.place l.reader
