use Rattle.std.proofs.Common.{◌≡◌}
use Rattle.dg_base.specs.TreeView.{body_view}
use Rattle.dg_core.specs.inside.Making.{made, body_behind, goals_behind, goals_weight}
use Rattle.dg_core.specs.inside.View.{scope_view}
use Rattle.dg_core.proofs.goals.make.Given as goal

abbrev pub invariant-loop-work : goal.invariant-loop-work
invariant-loop-work l = goals_behind (scope_view l.scope) l.left (made l.making) ≡ body_behind (scope_view l.scope) (body_view l.body) (made l.initial.making)

abbrev pub decreases-loop-work : goal.decreases-loop-work
decreases-loop-work l = goals_weight l.left
