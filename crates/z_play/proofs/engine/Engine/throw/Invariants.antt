use Rattle.z_play.proofs.Throwing.{Dropping}
use Rattle.z_play.proofs.engine.Engine.throw.Given as goal

abbrev pub invariant-loop-self : goal.invariant-loop-self
invariant-loop-self l = Dropping l.fn.self l.self l.frame

abbrev pub decreases-loop-self : goal.decreases-loop-self
decreases-loop-self l = l.self.depth
