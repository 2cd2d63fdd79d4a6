use Rattle.dg_access.specs.inside.Reached.{reached_view, rows_of}
use Rattle.dg_access.proofs.ReachedLemmas.{IsGoing}
use Rattle.dg_access.proofs.reached.reached_from.Given as goal

abbrev pub invariant-loop-at : goal.invariant-loop-at
invariant-loop-at l = IsGoing (rows_of l.rows) l.start l.at (reached_view l.reached)
