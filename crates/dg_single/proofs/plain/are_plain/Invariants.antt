use Rattle.std.proofs.Common.{◌≡◌}
use Rattle.dg_single.specs.Plain.{are_plain}
use Rattle.dg_single.specs.inside.Left.{left_plain, left_weight}
use Rattle.dg_single.proofs.plain.are_plain.Given as goal

abbrev pub invariant-loop-goals : goal.invariant-loop-goals
invariant-loop-goals l = left_plain l.set l.left.items ≡ are_plain l.set l.body

abbrev pub decreases-loop-goals : goal.decreases-loop-goals
decreases-loop-goals l = left_weight l.left.items
