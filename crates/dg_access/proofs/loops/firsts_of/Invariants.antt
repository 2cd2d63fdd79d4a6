use Rattle.std.proofs.Common.{◌≡◌, ◌++◌, drop, map}
use Rattle.dg_put.specs.inside.Putting.{access_view}
use Rattle.dg_access.specs.inside.Rows.{firsts}
use Rattle.dg_access.proofs.loops.firsts_of.Given as goal

abbrev pub invariant-loop-rule : goal.invariant-loop-rule
invariant-loop-rule l = l.numbers.items ++ firsts (map access_view l.rules.all.now) (map access_view (drop l.rule-index l.rules.all.now)) ≡ firsts (map access_view l.rules.all.now) (map access_view l.rules.all.now)
