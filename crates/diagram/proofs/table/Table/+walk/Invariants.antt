use Rattle.diagram.proofs.table.Table.+walk.Given as goal

abbrev pub decreases-walk : goal.decreases-walk
decreases-walk g l = l.f.entry
