use Rattle.std.proofs.Common.{sym}
use Rattle.dg_interp.proofs.interpreter.show_from.Goals as goal

pub returns-clause-shows : goal.returns-clause-shows
returns-clause-shows g c = rw (sym c.swap.ensures.x_after) at (rw c.new-output.ensures.showing at c.show_run-result.ensures.shows)

pub returns-clause-err : goal.returns-clause-err
returns-clause-err g c = rw (sym c.swap.ensures.x_after) at (rw c.new-output.ensures.showing at c.show_run-result.ensures.err)
