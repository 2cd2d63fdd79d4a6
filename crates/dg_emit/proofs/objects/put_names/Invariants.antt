use Rattle.std.proofs.Common.{◌≡◌, ◌++◌, length}
use Rattle.dg_turn.specs.Names.{chain_routines}
use Rattle.dg_emit.proofs.objects.put_names.Given as goal

abbrev pub invariant-loop-left : goal.invariant-loop-left
invariant-loop-left l = l.all ++ chain_routines 2 0 (length l.left) 1 l.left ≡ l.initial.all ++ chain_routines 2 0 (length l.leaves) 1 l.leaves

abbrev pub decreases-loop-left : goal.decreases-loop-left
decreases-loop-left l = length l.left
