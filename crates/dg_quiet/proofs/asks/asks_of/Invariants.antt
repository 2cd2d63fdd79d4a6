use Rattle.std.proofs.Common.{◌≡◌, List, Bool}
use Rattle.std.specs.Prelude.{◌&&◌}
use Rattle.dg_meaning.specs.Quiet.{have_quiet_bodies}
use Rattle.dg_quiet.specs.inside.Left.{left_quiet, left_weight, asks_in}
use Rattle.dg_quiet.proofs.asks.asks_of.Given as goal

abbrev pub invariant-loop-goals : goal.invariant-loop-goals
invariant-loop-goals l = (set : List Bool) → have_quiet_bodies set l.rules ≡ (left_quiet set l.left.items && asks_in set l.asks.items)

abbrev pub decreases-loop-goals : goal.decreases-loop-goals
decreases-loop-goals l = left_weight l.left.items
