use Rattle.std.proofs.Common.{◌≡◌, ◌++◌, drop, map}
use Rattle.dg_base.specs.Tree.{changes_of}
use Rattle.dg_base.specs.TreeView.{change_view}
use Rattle.dg_core.specs.Bodies.{direct, in_changes}
use Rattle.dg_core.specs.Goals as spec
use Rattle.dg_core.specs.inside.Making.{bodies_view}
use Rattle.dg_core.specs.inside.View.{scope_behind}
use Rattle.dg_core.proofs.queries.add_changes.Given as goal

abbrev pub invariant-loop-change : goal.invariant-loop-change
invariant-loop-change l =
    (l.goals ++ spec.change_goals (scope_behind l.scope l.found) (changes_of (map change_view (drop l.change-index l.changes))) ≡
    l.initial.goals ++ spec.change_goals (scope_behind l.scope l.initial.found) (changes_of (map change_view l.changes))) ×
    (bodies_view l.found ++ direct (in_changes (changes_of (map change_view (drop l.change-index l.changes)))) ≡
    bodies_view l.initial.found ++ direct (in_changes (changes_of (map change_view l.changes))))
