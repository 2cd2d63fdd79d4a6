use Rattle.std.proofs.Common.{◌≡◌, ◌++◌, drop}
use Rattle.dg_access.specs.inside.Reached.{rows_of}
use Rattle.dg_access.specs.inside.Rows.{pooled_from}
use Rattle.dg_access.proofs.loops.pooled_of.Given as goal

abbrev pub invariant-loop-first : goal.invariant-loop-first
invariant-loop-first l = rows_of l.pooled.items ++ pooled_from l.first (drop l.first l.firsts) l.firsts (rows_of l.rows) ≡ pooled_from 0 l.firsts l.firsts (rows_of l.rows)
