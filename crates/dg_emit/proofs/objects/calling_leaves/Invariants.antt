use Rattle.std.proofs.Common.{◌≡◌, ◌+◌, ◌-◌, ◌++◌}
use Rattle.dg_turn.specs.Names.{calling_leaves}
use Rattle.dg_emit.proofs.objects.calling_leaves.Given as goal

abbrev pub invariant-loop-index : goal.invariant-loop-index
invariant-loop-index l = l.leaves ++ calling_leaves (l.number + l.index) (l.count - l.index) ≡ calling_leaves l.number l.count

abbrev pub decreases-loop-index : goal.decreases-loop-index
decreases-loop-index l = l.count - l.index
