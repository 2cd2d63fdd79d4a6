use Rattle.std.proofs.Common.{◌≡◌, ◌+◌, List, Bool, drop}
use Rattle.std.specs.Prelude.{◌&&◌}
use Rattle.dg_single.specs.inside.Left.{all_plain, left_plain, lists_weight, left_weight}
use Rattle.dg_single.proofs.plain.add_lists.Given as goal

abbrev pub invariant-loop-goals : goal.invariant-loop-goals
invariant-loop-goals l = record {
  plain : (set : List Bool) → (left_plain set l.left.items && all_plain set (drop l.goals-index l.lists)) ≡ (left_plain set l.initial.left.items && all_plain set l.lists);
  weight : left_weight l.left.items + lists_weight (drop l.goals-index l.lists) ≡ left_weight l.initial.left.items + lists_weight l.lists;
}
