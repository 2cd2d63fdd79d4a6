use Rattle.dg_interp.specs.inside.Engine.{StandsAt, WentOn, branches_left}
use Rattle.dg_interp.proofs.engine.Engine.next_goal.Given as goal

abbrev pub invariant-answers : goal.invariant-answers
invariant-answers l = WentOn (StandsAt l.initial.self) l.initial.self l.self

abbrev pub decreases-answers : goal.decreases-answers
decreases-answers l = branches_left l.self
