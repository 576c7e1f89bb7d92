use Rattle.diagram.specs.Orders.{Ranged, Apart}
use Rattle.diagram.proofs.letters.is_proper.Given as goal

abbrev pub invariant-loop-i : goal.invariant-loop-i
invariant-loop-i l = Ranged l.letters l.i × Apart l.letters l.i
