use Rattle.std.proofs.Common.{◌≡◌, ◌<◌, ◌+◌, ◌++◌, ◌∷◌, List, Bool, map, drop, get_or, length, sym, ◌∙◌, ap, arith}
use Rattle.dg_base.specs.Tree.{Parts, changes_of}
use Rattle.dg_base.specs.TreeView.{change_view}
use Rattle.dg_core.specs.Bodies.{direct, in_changes}
use Rattle.dg_core.specs.Goals.{change_goals}
use Rattle.dg_core.specs.inside.Making.{bodies_view}
use Rattle.dg_core.specs.inside.View.{scope_view, scope_behind}
use Rattle.dg_core.proofs.ChangeLemmas.{next_change, changes_next, bodies_next}
use Rattle.dg_core.proofs.queries.add_changes.Goals as goal

pub loop-change-preserved : goal.loop-change-preserved
loop-change-preserved c =
    let cs = c.args.changes.now in
    let k = c.loop-change.change-index in
    let x = c.change-item.result in
    let lt : k < length cs = omega arith in
    let is = c.change-item.is in
    let same : x ≡ get_or cs k x = cc in
    let rest = map change_view (drop (k + 1) cs) in
    let split = sym (next_change cs k x lt same) in
    let found = bodies_view c.loop-change.found in
    let s = scope_view c.args.scope.now in (
      changes_next s found _ c.loop-change.goals _ _ (change_view x) rest c.in_ok-push.ensures.ok c.in_ok-change_goal.ensures.goal c.in_ok-change_goal.ensures.found
          ∙ ap (λ (l : List (Parts × Bool)). c.loop-change.goals ++ change_goals (scope_behind c.args.scope.now c.loop-change.found) (changes_of l)) split
          ∙ c.loop-change.invariant.0,
      bodies_next found _ (change_view x) rest c.in_ok-change_goal.ensures.found
          ∙ ap (λ (l : List (Parts × Bool)). found ++ direct (in_changes (changes_of l))) split
          ∙ c.loop-change.invariant.1,
    )
