use Rattle.std.proofs.Common.{◌≡◌, ◌++◌, drop}
use Rattle.dg_access.specs.inside.Reached.{rows_of}
use Rattle.dg_access.specs.inside.Rows.{pooled}
use Rattle.dg_access.proofs.loops.pooled_at.Given as goal

abbrev pub invariant-loop-number : goal.invariant-loop-number
invariant-loop-number l = l.row.items ++ pooled l.first (drop l.number l.firsts) (drop l.number (rows_of l.rows)) ≡ pooled l.first l.firsts (rows_of l.rows)
