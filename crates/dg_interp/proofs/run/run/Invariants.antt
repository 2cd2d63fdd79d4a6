use Rattle.dg_interp.specs.inside.Running.{GoesOn}
use Rattle.dg_interp.proofs.run.run.Given as goal

abbrev pub invariant-goals : goal.invariant-goals
invariant-goals g l = GoesOn g.A.Showing.watching l.initial.engine l.engine l.initial.output.printer.spacer l.output.printer.spacer (l.initial.output.printer.showing, l.initial.sink) (l.output.printer.showing, l.sink) (g.S.Source.view l.initial.source) (g.S.Source.view l.source)

abbrev pub decreases-goals : goal.decreases-goals
decreases-goals g l = l.engine.left
