use Rattle.std.proofs.Common.{◌≡◌, ◌+◌, ◌*◌, ◌≤◌, ◌++◌, length}
use Rattle.dg_turn.specs.Names.{chain_acts}
use Rattle.dg_emit.proofs.objects.chain_routine.Given as goal

abbrev pub invariant-loop-left : goal.invariant-loop-left
invariant-loop-left l =
    (l.body ++ chain_acts l.chain.local l.chain.step l.end l.label l.left ≡ chain_acts l.chain.local l.chain.step l.chain.end 0 l.leaves)
    × (l.end + 32 * length l.left ≤ 65535)
    × (l.label + length l.left ≤ 65535)

abbrev pub decreases-loop-left : goal.decreases-loop-left
decreases-loop-left l = length l.left
