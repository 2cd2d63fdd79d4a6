use Rattle.dg_interp.specs.inside.Engine.{StopsWithin, branches_left}
use Rattle.dg_interp.proofs.engine.Engine.stop_to.Given as goal

abbrev pub invariant-choices : goal.invariant-choices
invariant-choices l = StopsWithin l.tag l.initial.self l.self

abbrev pub decreases-choices : goal.decreases-choices
decreases-choices l = branches_left l.self
