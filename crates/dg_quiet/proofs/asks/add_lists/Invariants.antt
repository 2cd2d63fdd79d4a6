use Rattle.std.proofs.Common.{◌≡◌, ◌+◌, List, Bool, drop}
use Rattle.std.specs.Prelude.{◌&&◌}
use Rattle.dg_quiet.specs.inside.Left.{all_quiet, left_quiet, lists_weight, left_weight}
use Rattle.dg_quiet.proofs.asks.add_lists.Given as goal

abbrev pub invariant-loop-goals : goal.invariant-loop-goals
invariant-loop-goals l = record {
  quiet : (set : List Bool) → (left_quiet set l.left.items && all_quiet set (drop l.goals-index l.lists)) ≡ (left_quiet set l.initial.left.items && all_quiet set l.lists);
  weight : left_weight l.left.items + lists_weight (drop l.goals-index l.lists) ≡ left_weight l.initial.left.items + lists_weight l.lists;
}
