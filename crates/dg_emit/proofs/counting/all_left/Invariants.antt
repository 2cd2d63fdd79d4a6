use Rattle.std.proofs.Common.{◌≡◌, ◌++◌, length}
use Rattle.dg_emit.specs.inside.Left.{those, left}
use Rattle.dg_emit.proofs.counting.all_left.Given as goal

abbrev pub invariant-loop-others : goal.invariant-loop-others
invariant-loop-others l = those l.others ++ left l.made ≡ those l.terms

abbrev pub decreases-loop-others : goal.decreases-loop-others
decreases-loop-others l = length l.others
