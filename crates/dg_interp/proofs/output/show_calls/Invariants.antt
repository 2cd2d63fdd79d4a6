use Rattle.std.proofs.Common.{drop}
use Rattle.dg_interp.proofs.Runs.{CallsShown}
use Rattle.dg_interp.proofs.output.show_calls.Given as goal

abbrev pub invariant-loop-call : goal.invariant-loop-call
invariant-loop-call g l = CallsShown g.A.Showing.watching l.calls (drop l.call-index l.calls) (l.initial.showing, l.initial.sink) (l.showing, l.sink)
