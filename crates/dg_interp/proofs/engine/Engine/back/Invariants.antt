use Rattle.dg_interp.specs.inside.Engine.{FailsAt, WentWrong, branches_left}
use Rattle.std.proofs.Common.{◌≤◌}
use Rattle.dg_interp.proofs.engine.Engine.back.Given as goal

abbrev pub invariant-choices : goal.invariant-choices
invariant-choices l = record { wrong : WentWrong (FailsAt l.initial.self) l.initial.self l.self; fewer : branches_left l.self ≤ branches_left l.initial.self }

abbrev pub decreases-choices : goal.decreases-choices
decreases-choices l = branches_left l.self
