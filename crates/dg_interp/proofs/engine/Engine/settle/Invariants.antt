use Rattle.std.proofs.Common.{◌≤◌}
use Rattle.dg_interp.specs.inside.Engine.{StandsAt, WentOn, branches_left}
use Rattle.dg_interp.proofs.engine.Engine.settle.Given as goal

abbrev pub invariant-loop-self : goal.invariant-loop-self
invariant-loop-self l = record { went_on : WentOn (StandsAt l.initial.self) l.initial.self l.self; fewer : branches_left l.self ≤ branches_left l.initial.self }

abbrev pub decreases-loop-self : goal.decreases-loop-self
decreases-loop-self l = l.self.here.behind
