use Rattle.std.proofs.Common.{◌≡◌, ◌+◌, ◌≤◌, ◌++◌, drop, length}
use Rattle.dg_turn.specs.Names.{name_leaves}
use Rattle.dg_emit.proofs.objects.name_leaves.Given as goal

abbrev pub invariant-loop-name : goal.invariant-loop-name
invariant-loop-name l =
    (l.leaves ++ name_leaves l.next (drop l.name-index l.names) ≡ name_leaves l.number l.names)
    × (l.next + length (drop l.name-index l.names) ≤ 65535)
