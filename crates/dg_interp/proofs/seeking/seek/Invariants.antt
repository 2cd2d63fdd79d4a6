use Rattle.dg_interp.proofs.Searches.{Sofar}
use Rattle.dg_interp.proofs.seeking.seek.Given as goal

abbrev pub invariant-goals : goal.invariant-goals
invariant-goals l = Sofar l.initial.engine l.engine

abbrev pub decreases-goals : goal.decreases-goals
decreases-goals l = l.engine.left
