use Rattle.std.proofs.Common.{◌≡◌}
use Rattle.dg_plain.specs.Building.{built_view}
use Rattle.dg_put.specs.inside.Putting.{around, run}
use Rattle.dg_put.proofs.expanding.run_all.Given as goal

abbrev pub invariant-loop-turn : goal.invariant-loop-turn
invariant-loop-turn l = run (around l.uses) l.left.items (built_view l.weighed.built) ≡ run (around l.uses) l.initial.left.items (built_view l.initial.weighed.built)
