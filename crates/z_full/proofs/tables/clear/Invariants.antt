use Rattle.z_model.specs.Tables.{cleared}
use Rattle.z_full.proofs.Steps.{GoesOn}
use Rattle.z_full.proofs.tables.clear.Given as goal

abbrev pub invariant-loop-more : goal.invariant-loop-more
invariant-loop-more g l = GoesOn (g.B.Bytes.memory l.initial.mem) (g.B.Bytes.memory l.mem) (cleared (g.B.Bytes.memory l.initial.mem) l.from l.n) (cleared (g.B.Bytes.memory l.mem) l.at l.more)

abbrev pub decreases-loop-more : goal.decreases-loop-more
decreases-loop-more g l = l.more
