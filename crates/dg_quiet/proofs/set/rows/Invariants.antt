use Rattle.std.proofs.Common.{◌≡◌, [], replicate}
use Rattle.dg_quiet.specs.inside.Spread.{rows_of}
use Rattle.dg_quiet.proofs.set.rows.Given as goal

abbrev pub invariant-loop : goal.invariant-loop
invariant-loop l = rows_of l.rows.items ≡ replicate l.counter []
