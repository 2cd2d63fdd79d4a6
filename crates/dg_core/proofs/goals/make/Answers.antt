use Rattle.std.proofs.Common.{rules, ◌≡◌, [], List, sym, ◌∙◌, ap}
use Rattle.dg_core.specs.inside.Making.{made, goals_behind}
use Rattle.dg_core.specs.inside.View.{scope_view}
use Rattle.dg_core.specs.declared.goals.GoalWork.{GoalWork}
use Rattle.dg_core.proofs.MakingLemmas.{goals_next, goals_smaller}
use Rattle.dg_core.proofs.goals.make.Goals as goal

pub loop-work-preserved : goal.loop-work-preserved
loop-work-preserved c = c.in_ok-take.ensures.behind ∙ sym (goals_next (scope_view c.args.scope.now) _ _ _ _ c.in-Some.ensures) ∙ c.loop-work.invariant

pub loop-work-smaller : goal.loop-work-smaller
loop-work-smaller c = goals_smaller _ _ _ _ c.in-Some.ensures c.in_ok-take.ensures.weight

pub returns : goal.returns
returns c =
    let none : c.loop-work.left ≡ [] = search rules in
    ap (λ (l : List GoalWork). goals_behind (scope_view c.args.scope.now) l (made c.loop-work.making)) (sym none) ∙ c.loop-work.invariant
