use Rattle.std.proofs.Common.{◌≡◌, ◌++◌}
use Rattle.dg_base.specs.TreeView.{said_view}
use Rattle.dg_base.specs.Mentions.{of_said}
use Rattle.dg_base.specs.Walk.{walk, seen, left_of, total}
use Rattle.dg_base.proofs.walk.mentions_of.Given as goal

abbrev pub invariant-loop-work : goal.invariant-loop-work
invariant-loop-work l = seen l.found.items ++ left_of l.left.items ≡ walk (of_said (said_view l.said))

abbrev pub decreases-loop-work : goal.decreases-loop-work
decreases-loop-work l = total l.left.items
