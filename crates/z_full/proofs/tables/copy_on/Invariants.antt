use Rattle.z_model.specs.Tables.{copied_on}
use Rattle.z_full.proofs.Steps.{GoesOn}
use Rattle.z_full.proofs.tables.copy_on.Given as goal

abbrev pub invariant-loop-more : goal.invariant-loop-more
invariant-loop-more g l = GoesOn (g.B.Bytes.memory l.initial.mem) (g.B.Bytes.memory l.mem) (copied_on (g.B.Bytes.memory l.initial.mem) l.from l.to l.n) (copied_on (g.B.Bytes.memory l.mem) l.a l.b l.more)

abbrev pub decreases-loop-more : goal.decreases-loop-more
decreases-loop-more g l = l.more
