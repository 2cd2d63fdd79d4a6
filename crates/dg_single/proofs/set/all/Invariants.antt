use Rattle.std.proofs.Common.{◌≡◌, replicate, true}
use Rattle.dg_single.proofs.set.all.Given as goal

abbrev pub invariant-loop : goal.invariant-loop
invariant-loop l = l.set.items ≡ replicate l.counter true
