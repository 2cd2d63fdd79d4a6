use Rattle.std.proofs.Common.{◌≡◌}
use Rattle.dg_plain.specs.Building.{built_view, run}
use Rattle.dg_plain.specs.State.{setting_view}
use Rattle.dg_plain.proofs.plain.run_all.Given as goal

abbrev pub invariant-loop-turn : goal.invariant-loop-turn
invariant-loop-turn l = run (setting_view l.setting) l.left.items (built_view l.built) ≡ run (setting_view l.setting) l.initial.left.items (built_view l.initial.built)
